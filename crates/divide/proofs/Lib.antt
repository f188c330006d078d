pub mod Fits
pub mod Signs
pub mod Laws
pub mod Machine
pub mod Examples
