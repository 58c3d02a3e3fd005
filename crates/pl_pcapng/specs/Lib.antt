pub mod BlockError
pub mod Kind
pub mod Layout
pub mod Position
pub mod Standing
pub mod Reading
pub mod Sections
pub mod Cursor
