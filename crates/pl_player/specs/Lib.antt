pub mod Endings
pub mod Newest
pub mod Leaving
