pub mod Invariant
pub mod OneSwitch
pub mod Groups
