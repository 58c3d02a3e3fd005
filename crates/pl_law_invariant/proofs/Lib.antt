pub mod TellingPlaces
pub mod Grounding
pub mod LawfulRuns
pub mod KeepingControl
pub mod GrantsInRuns
pub mod DueInWorlds
pub mod ExecutionsKeepInvariant
pub mod Exports
