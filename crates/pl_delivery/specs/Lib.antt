pub mod Replies
pub mod Aging
pub mod Sending
