pub mod Hosts
pub mod Drawing
pub mod TopologyText
pub mod ScriptText
pub mod Captures
pub mod Generated
