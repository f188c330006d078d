pub mod Outcome
pub mod Given
pub mod Steps
pub mod Examples
