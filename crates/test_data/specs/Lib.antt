pub mod Held
pub mod Alike
pub mod File
