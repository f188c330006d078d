pub mod Asked
pub mod Lowering
pub mod Images
pub mod Tables
pub mod Matching
pub mod Roots
pub mod Check
