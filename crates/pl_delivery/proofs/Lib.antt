mod Newer
pub mod Rest
pub mod Exports
pub mod Views
pub mod Filters
pub mod Ticks
