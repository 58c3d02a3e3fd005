pub mod Accounts
pub mod Apart
pub mod Paths
pub mod QuietAnswers
pub mod OnePort
pub mod Exports
