pub mod Line
pub mod Accepted
pub mod Examples
