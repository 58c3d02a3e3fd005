pub mod EdgeViews
pub mod Begun
pub mod Told
