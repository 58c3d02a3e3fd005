pub mod Pairs
pub mod Counting
pub mod Voting
