pub mod FirstIndices
pub mod Standing
pub mod OneChanged
pub mod Stepping
pub mod LinkFound
pub mod Sums
pub mod Stale
pub mod Switching
mod SameSaid
mod StaleCounts
pub mod Exports
