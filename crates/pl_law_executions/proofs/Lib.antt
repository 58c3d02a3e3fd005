pub mod OneWayOfExecutions
pub mod Rests
pub mod OneEnd
