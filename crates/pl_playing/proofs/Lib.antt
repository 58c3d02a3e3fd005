pub mod Remaining
pub mod Stopped
pub mod Failing
pub mod GoingOut
pub mod Playing
pub mod Watching
pub mod Preparing
pub mod Exports
