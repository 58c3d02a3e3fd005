pub mod HostFrames
pub mod HostSends
pub mod HostGroups
pub mod HostOrder
pub mod HostOwn
pub mod Lawful
pub mod Exports
