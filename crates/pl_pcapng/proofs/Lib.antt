pub mod Tables
pub mod Walks
pub mod Cursors
pub mod Examples
pub mod Exports
