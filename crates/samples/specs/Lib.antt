pub mod Sample
pub mod Cases
