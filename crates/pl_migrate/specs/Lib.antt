pub mod AddressTables
pub mod Tenancies
pub mod PortGrants
pub mod Standings
pub mod Keeping
pub mod Orders
pub mod Reports
