pub mod Executions
pub mod Rounds
pub mod Settled
pub mod Settlings
pub mod Draws
pub mod Drains
