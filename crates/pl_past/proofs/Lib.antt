pub mod LiveLinks
pub mod Frames
pub mod Table
pub mod LegLemmas
pub mod MovesByNumbers
pub mod HoldersByNumbers
pub mod Exports
