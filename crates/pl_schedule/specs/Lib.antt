pub mod Coming
pub mod Heads
pub mod Looks
