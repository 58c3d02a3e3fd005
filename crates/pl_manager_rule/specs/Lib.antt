pub mod ManagerRule
pub mod Reports
pub mod Treating
pub mod WholeRule
pub mod Repeats
pub mod Lawful
pub mod Histories
