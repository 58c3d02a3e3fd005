pub mod Events
pub mod Logs
pub mod Marks
pub mod News
pub mod SameLooks
pub mod Seen
