pub mod Judging
pub mod LineEnds
pub mod Reading
