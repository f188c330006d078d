pub mod Sound
pub mod Transfer
pub mod Choices
pub mod Passed
pub mod Guards
