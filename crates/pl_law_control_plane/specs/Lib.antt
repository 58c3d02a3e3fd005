pub mod ControlPlanes
pub mod Discovery
pub mod PlaneSteps
pub mod Restarts
pub mod HostsAtEdges
pub mod Homes
pub mod Ids
pub mod Incoming
