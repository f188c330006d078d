pub mod Fits
pub mod Formed
pub mod Tagged
pub mod Examples
