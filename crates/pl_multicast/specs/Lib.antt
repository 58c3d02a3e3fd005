pub mod Records
pub mod Messages
pub mod Changes
