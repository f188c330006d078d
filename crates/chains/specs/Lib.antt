pub mod Ready
pub mod Step
