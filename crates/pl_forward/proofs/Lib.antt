pub mod Passing
pub mod Groups
