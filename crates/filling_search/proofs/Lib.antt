pub mod Tried
pub mod Quieted
pub mod Taken
