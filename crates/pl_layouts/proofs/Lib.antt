pub mod Arrivals
pub mod Arrived
pub mod Kept
pub mod Known
pub mod Sameness
pub mod Exports
