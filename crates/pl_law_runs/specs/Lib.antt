pub mod NoChoice
pub mod NamedDrops
