pub mod Address
pub mod Ethernet
pub mod Lending
