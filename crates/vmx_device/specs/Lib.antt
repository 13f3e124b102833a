pub mod Holds
pub mod Rest
