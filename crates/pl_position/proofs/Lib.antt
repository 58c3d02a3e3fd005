pub mod Freeing
pub mod OwnHolds
pub mod Fronts
