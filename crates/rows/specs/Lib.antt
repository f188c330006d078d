pub mod Row
pub mod Tags
pub mod Node
pub mod Decoded
