pub mod Pool
pub mod Chains
