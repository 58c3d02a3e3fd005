pub mod Queues
pub mod Ports
pub mod Changes
pub mod Acts
pub mod Counted
pub mod Events
pub mod Exports
