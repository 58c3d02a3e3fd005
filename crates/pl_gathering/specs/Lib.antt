pub mod Gathering
pub mod Acting
pub mod Keeping
pub mod Orderly
