pub mod Words
pub mod Finding
pub mod Printing
pub mod Telling
pub mod Exports
