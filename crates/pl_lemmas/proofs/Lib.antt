pub mod Pigeonhole
pub mod Bools
pub mod Options
pub mod Lists
pub mod Exports
