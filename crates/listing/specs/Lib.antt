pub mod Listing
pub mod Places
