pub mod Parts
pub mod Tests
pub mod Outcome
pub mod Figures
pub mod Claims
pub mod Cases
