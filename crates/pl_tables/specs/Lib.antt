pub mod Rows
pub mod Leads
pub mod Tables
pub mod Ways
