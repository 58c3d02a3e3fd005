pub mod Links
pub mod Kept
pub mod Legs
pub mod Moves
pub mod Addressees
