pub mod Candidacy
pub mod Holding
pub mod Voting
