pub mod Keeps
pub mod Outcome
