pub mod Spelling
pub mod Tables
pub mod Lengths
pub mod Exports
