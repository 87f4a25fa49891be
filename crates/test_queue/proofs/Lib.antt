pub mod Laid
pub mod Turn
pub mod Passing
