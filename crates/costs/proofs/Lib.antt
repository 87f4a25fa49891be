pub mod Nearest
pub mod Residue
pub mod Lifted
pub mod Costs
pub mod Stored
pub mod Chosen
