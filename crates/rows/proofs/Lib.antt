pub mod Tags
pub mod View
