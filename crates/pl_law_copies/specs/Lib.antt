pub mod Copies
pub mod Standing
pub mod Alone
pub mod Trees
