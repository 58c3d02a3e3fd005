pub mod Insertion
pub mod PortBits
pub mod Exports
