pub mod Stop
pub mod Promise
pub mod Agree
pub mod Parts
