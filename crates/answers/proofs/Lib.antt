pub mod Bounds
pub mod Records
