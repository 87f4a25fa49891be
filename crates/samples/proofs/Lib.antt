pub mod Constants
pub mod Whole
pub mod Moved
pub mod Samples
pub mod Examples
