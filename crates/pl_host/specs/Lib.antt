pub mod Carried
pub mod Owners
pub mod Waiting
pub mod Host
