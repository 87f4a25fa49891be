pub mod Tests
pub mod Example
