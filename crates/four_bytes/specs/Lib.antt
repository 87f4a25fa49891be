pub mod FourBytes
