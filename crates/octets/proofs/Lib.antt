pub mod Compared
pub mod Place
