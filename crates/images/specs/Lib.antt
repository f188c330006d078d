pub mod Bits
pub mod Constants
