pub mod Widths
pub mod Examples
