pub mod Serving
pub mod Rooted
pub mod Reaching
pub mod Rostering
pub mod Kept
