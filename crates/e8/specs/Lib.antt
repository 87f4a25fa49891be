pub mod Energy
pub mod Order
pub mod Lattice
pub mod Largest
pub mod Least
pub mod Ties
pub mod Rows
