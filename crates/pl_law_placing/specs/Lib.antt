pub mod Trying
pub mod Placing
pub mod Noting
pub mod Resting
pub mod Bounding
pub mod Receiving
pub mod Parking
