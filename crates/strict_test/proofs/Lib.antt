pub mod Compared
pub mod Copy
