pub mod Shapeable
