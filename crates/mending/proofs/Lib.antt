pub mod Mending
pub mod Halving
pub mod Figures
