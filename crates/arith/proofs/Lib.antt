-- The laws of sums, products and parts. Assumes nothing.
pub mod Sums
pub mod Highest
pub mod Fits
pub mod Parts
pub mod Halves
