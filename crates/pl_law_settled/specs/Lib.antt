pub mod Whole
pub mod AtPlace
pub mod Agreed
