pub mod WordLemmas
pub mod LineLemmas
pub mod NumberLemmas
pub mod NameLemmas
pub mod Readings
pub mod BridgeLines
pub mod Exports
