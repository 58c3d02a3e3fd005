pub mod Holding
pub mod Finding
pub mod Releasing
pub mod Stepping
