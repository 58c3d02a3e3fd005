pub mod OneStep
pub mod WiringIndex
pub mod Attachments
pub mod StaleCounts
pub mod QueueIndices
