pub mod Fields
pub mod Numbers
pub mod Switches
pub mod Exports
