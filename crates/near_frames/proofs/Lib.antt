pub mod NearKinds
pub mod Squares
pub mod Only
pub mod Frames
pub mod Sum
