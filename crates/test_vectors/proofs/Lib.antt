pub mod Sent
pub mod Received
pub mod Moving
pub mod Judging
