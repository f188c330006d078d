pub mod First
pub mod Build
pub mod Tests
pub mod Trace
