pub mod AndThen
pub mod Numbers
