pub mod ControlInvariant
pub mod KeepsAll
