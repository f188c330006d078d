pub mod Cases
pub mod Shapes
pub mod Refusals
pub mod Inversion
pub mod Images
pub mod Marks
pub mod Classes
