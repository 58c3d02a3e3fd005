pub mod HostRule
