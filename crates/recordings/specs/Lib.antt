pub mod Recording
pub mod Choice
pub mod Claims
pub mod Cases
