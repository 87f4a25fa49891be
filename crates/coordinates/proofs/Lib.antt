pub mod Maps
pub mod Size
pub mod Filled
pub mod Range
pub mod Rest
pub mod Reading
