pub mod Printing
pub mod Closing
