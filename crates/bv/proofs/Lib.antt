pub mod Word
pub mod Fits
pub mod Smtlib
pub mod Examples
