pub mod Same
pub mod Place
