pub mod Cases
pub mod Reached
