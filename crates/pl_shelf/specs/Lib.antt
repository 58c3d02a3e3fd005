pub mod Held
pub mod Faults
pub mod Capacity
pub mod MemoryShelf
