pub mod Ranking
pub mod Reached
