pub mod BridgeRule
pub mod Tree
pub mod QuietManager
pub mod BridgeExamples
