pub mod Compared
pub mod Taken
pub mod Parts
