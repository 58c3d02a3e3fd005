pub mod Stops
pub mod Played
pub mod LinksLeft
pub mod HostNumbers
