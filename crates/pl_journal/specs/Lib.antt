pub mod Places
pub mod Flights
pub mod Causes
pub mod Lossy
pub mod Text
pub mod Savable
pub mod Ranges
