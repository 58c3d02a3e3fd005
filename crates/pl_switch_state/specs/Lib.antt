pub mod StateViews
pub mod Settling
pub mod Proposals
