pub mod PortsViews
pub mod SoundPorts
pub mod Changes
pub mod Evidence
pub mod Standings
