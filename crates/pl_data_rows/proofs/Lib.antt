pub mod HomeRows
pub mod HostRows
pub mod NeighbourRows
pub mod MessageRows
