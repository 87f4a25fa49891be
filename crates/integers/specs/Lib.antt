pub mod Integer
