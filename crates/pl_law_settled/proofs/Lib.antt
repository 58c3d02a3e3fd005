pub mod Records
pub mod Pods
pub mod Placed
pub mod Epochs
pub mod Sweeping
pub mod Proposals
pub mod SettledRuns
