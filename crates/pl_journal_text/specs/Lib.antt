pub mod Reading
pub mod Writable
pub mod Numerals
pub mod Hexadecimals
pub mod Ink
pub mod Verbs
pub mod Fields
