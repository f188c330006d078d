pub mod Constants
pub mod Equality
pub mod Agree
