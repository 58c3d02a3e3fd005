pub mod Owners
pub mod Addresses
pub mod ReportedAddresses
pub mod Learning
pub mod Askers
