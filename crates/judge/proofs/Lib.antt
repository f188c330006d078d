pub mod Outcome
pub mod Room
pub mod Sound
pub mod Cases
