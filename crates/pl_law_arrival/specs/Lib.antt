pub mod Ways
pub mod Reach
pub mod Losses
pub mod Orderly
pub mod SureFrames
