pub mod FabricsCanBegin
pub mod Knowing
pub mod Addressing
pub mod Hosting
pub mod StepsKeepJournal
pub mod JournalInRuns
pub mod Grouping
pub mod Exports
