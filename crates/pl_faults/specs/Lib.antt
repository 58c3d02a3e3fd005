pub mod Making
pub mod Kept
pub mod Listed
pub mod Rows
pub mod Numbered
pub mod Missed
pub mod Sharing
