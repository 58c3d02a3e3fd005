pub mod Chains
pub mod Joints
pub mod Words
pub mod Changes
pub mod Moves
pub mod Views
pub mod Items
