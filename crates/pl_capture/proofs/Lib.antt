pub mod Examples
pub mod Cursors
pub mod Reading
pub mod Spelled
pub mod Standing
pub mod Exports
