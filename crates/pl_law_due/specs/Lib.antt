pub mod Due
pub mod DueSteps
pub mod Gathering
pub mod DueExamples
