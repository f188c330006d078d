pub mod Bits
pub mod Bv
