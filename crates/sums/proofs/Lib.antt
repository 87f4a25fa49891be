pub mod Sum
pub mod Cases
pub mod Demands
