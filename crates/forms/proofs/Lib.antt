pub mod Counts
pub mod Form
