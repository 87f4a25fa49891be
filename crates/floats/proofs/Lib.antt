pub mod Compare
pub mod Exact
