pub mod Comparing
pub mod Reported
pub mod Removing
pub mod Reaching
pub mod Grouping
pub mod Exports
