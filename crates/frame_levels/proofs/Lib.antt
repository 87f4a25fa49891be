pub mod Halves
pub mod Joined
pub mod Words
