pub mod Outcomes
pub mod Networks
pub mod Plays
pub mod Prepared
pub mod Watched
