pub mod Bits
pub mod Tallies
