pub mod Apart
pub mod ApartExamples
pub mod Numbering
pub mod Pods
pub mod Ways
