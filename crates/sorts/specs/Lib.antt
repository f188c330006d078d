pub mod Sorts
pub mod Good
pub mod Every
