pub mod Stages
pub mod Clear
