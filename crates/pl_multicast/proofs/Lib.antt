pub mod Words
pub mod RecordSteps
pub mod Sums
pub mod ReadBack
