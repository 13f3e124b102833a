pub mod Few
pub mod Scripts
pub mod Lasts
