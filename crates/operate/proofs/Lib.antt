-- The laws of tags and of constants that the dispatch rests on. Assumes nothing.
pub mod Tag
pub mod Constant
