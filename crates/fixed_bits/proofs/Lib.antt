pub mod Words
pub mod Cleared
