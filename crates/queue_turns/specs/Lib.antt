pub mod Queue
pub mod InTurn
