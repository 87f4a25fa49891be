pub mod Tests
pub mod Turns
pub mod InOrder
