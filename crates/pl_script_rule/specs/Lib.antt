pub mod Scenes
pub mod Queues
pub mod Expecting
pub mod Lines
pub mod Asked
pub mod OnTree
