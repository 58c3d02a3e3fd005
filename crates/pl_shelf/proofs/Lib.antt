pub mod Changed
pub mod Written
pub mod Fronts
pub mod Naming
pub mod Placed
pub mod Examples
pub mod Exports
