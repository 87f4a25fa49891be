pub mod Laws
pub mod Tests
pub mod Demands
pub mod InTurn
pub mod Cases
