pub mod Along
pub mod ScriptRuns
pub mod TreeRuns
pub mod HostSteps
pub mod HostTurns
pub mod HostScripts
pub mod Stops
pub mod Exports
