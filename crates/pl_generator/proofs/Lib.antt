pub mod EdgeOrder
pub mod Ranges
pub mod CaptureLemmas
pub mod Held
