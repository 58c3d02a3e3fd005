pub mod Pmac
