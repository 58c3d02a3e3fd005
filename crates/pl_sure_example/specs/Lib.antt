pub mod Executing
pub mod Deciding
pub mod Scene
pub mod Worked
