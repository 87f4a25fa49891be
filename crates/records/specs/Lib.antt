pub mod Record
pub mod Writing
pub mod Reading
pub mod Demands
pub mod InTurn
pub mod Cases
