pub mod First
pub mod Filled
pub mod Fillings
pub mod LastBlock
pub mod ReadBack
pub mod Strict
pub mod LastByte
