pub mod Digits
pub mod Logic
pub mod Shift
pub mod Turn
pub mod Fits
