pub mod Savable
pub mod Determined
pub mod ExactRules
pub mod NamedDrops
pub mod RestartsCounted
pub mod Exports
