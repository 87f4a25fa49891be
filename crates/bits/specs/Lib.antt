pub mod Number
pub mod Message
