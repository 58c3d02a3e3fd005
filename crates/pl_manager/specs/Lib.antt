pub mod Routing
pub mod Telling
pub mod Manager
