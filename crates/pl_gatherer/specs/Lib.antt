pub mod Gatherers
