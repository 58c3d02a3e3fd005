pub mod Ledgers
pub mod Leading
