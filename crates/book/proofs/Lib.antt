pub mod Shape
pub mod Cases
pub mod Editions
