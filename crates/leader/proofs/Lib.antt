pub mod Masked
pub mod Stack
pub mod BlockNumbers
pub mod Laid
