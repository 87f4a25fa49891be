pub mod Cases
pub mod Lines
pub mod Example
pub mod Room
