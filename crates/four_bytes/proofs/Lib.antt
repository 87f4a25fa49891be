pub mod Laws
pub mod Stored
