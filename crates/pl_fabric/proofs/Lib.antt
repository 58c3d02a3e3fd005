pub mod ExecutionSteps
pub mod Visiting
pub mod Tests
pub mod Deciding
pub mod ExecutionRuns
pub mod QueueOrder
pub mod Exports
pub mod Waiting
