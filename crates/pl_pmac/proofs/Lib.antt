pub mod Inverse
pub mod Exports
