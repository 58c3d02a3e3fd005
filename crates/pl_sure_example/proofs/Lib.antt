pub mod Steps
pub mod Executions
pub mod Sound
pub mod Sure
pub mod Computed
