pub mod Codes
pub mod Refusals
pub mod Written
pub mod Spelled
pub mod Exports
