pub mod Reaching
pub mod GoingOut
pub mod Travelling
pub mod TreeWorld
pub mod Learnt
pub mod ExactWay
pub mod WayExample
