pub mod Following
pub mod Written
pub mod OneVerdict
pub mod Fitting
pub mod Exports
