pub mod Verdicts
pub mod VerdictExamples
