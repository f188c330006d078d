pub mod Sum
pub mod Editions
