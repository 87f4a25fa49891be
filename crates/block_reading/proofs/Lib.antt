pub mod Packing
pub mod BitRows
pub mod Quotients
