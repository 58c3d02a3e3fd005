pub mod Packet
pub mod Reception
