pub mod Acts
pub mod Controls
pub mod Kinds
pub mod Looks
pub mod Messages
pub mod Pages
pub mod Rows
pub mod Telling
