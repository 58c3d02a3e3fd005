pub mod Keys
pub mod Legs
pub mod Addresses
pub mod Holders
pub mod Hosts
pub mod Links
pub mod Groups
pub mod Frames
