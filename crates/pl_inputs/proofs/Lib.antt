pub mod Nothing
pub mod Reading
pub mod Within
pub mod Gathering
pub mod Parted
pub mod ItemLemmas
pub mod CommandLemmas
