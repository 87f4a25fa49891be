pub mod Buffer
pub mod Decimal
pub mod Coordinates
pub mod Examples
