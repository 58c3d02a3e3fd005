pub mod HostsLeftAlone
pub mod Joining
pub mod MembersInRuns
pub mod Exports
