pub mod Exact
pub mod Answers
pub mod Grown
pub mod Largest
pub mod History
pub mod Changeover
pub mod Opening
