pub mod WordBits
pub mod RowBits
pub mod Either
pub mod Exports
