pub mod Widths
pub mod Pass
pub mod Promise
