pub mod Tenures
pub mod Situations
pub mod Edges
pub mod Addressed
pub mod Leading
pub mod Trapping
pub mod InOrder
pub mod TenureExamples
