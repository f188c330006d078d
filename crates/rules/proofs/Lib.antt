pub mod Rule
pub mod Table
pub mod Codes
