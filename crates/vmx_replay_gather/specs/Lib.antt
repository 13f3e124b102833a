pub mod Records
pub mod Ending
pub mod Meeting
