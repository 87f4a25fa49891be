pub mod Number
pub mod Laws
