pub mod Going
pub mod LeftBySettling
