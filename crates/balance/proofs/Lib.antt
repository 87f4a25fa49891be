pub mod Sums
pub mod Each
pub mod Mirrored
pub mod Demands
