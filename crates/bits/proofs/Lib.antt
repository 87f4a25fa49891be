pub mod Sum
pub mod Table
pub mod Message
pub mod Digits
pub mod Bytewise
