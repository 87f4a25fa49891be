pub mod Carry
pub mod Counted
pub mod Words
