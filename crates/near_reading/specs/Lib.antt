pub mod Answer
pub mod Claims
pub mod Cases
