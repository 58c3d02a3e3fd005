pub mod Probes
pub mod BeingRegistered
pub mod Registering
pub mod Stood
