pub mod Between
pub mod Polls
pub mod Turns
pub mod Commands
pub mod Waits
