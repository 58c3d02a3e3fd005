pub mod Refusals
pub mod Writable
