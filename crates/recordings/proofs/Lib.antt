pub mod Recording
pub mod Choices
pub mod Claims
pub mod Cases
