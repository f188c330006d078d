pub mod Book
pub mod Good
