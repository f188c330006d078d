pub mod First
pub mod Search
pub mod Build
pub mod Fill
pub mod Choice
pub mod Tests
