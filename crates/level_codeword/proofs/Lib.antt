pub mod Laid
pub mod Held
