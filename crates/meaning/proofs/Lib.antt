pub mod Values
pub mod Fits
pub mod Named
pub mod Truth
pub mod Examples
