pub mod Cases
pub mod Sorts
