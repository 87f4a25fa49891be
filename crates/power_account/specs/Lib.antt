pub mod Power
pub mod Opening
pub mod Counted
pub mod History
