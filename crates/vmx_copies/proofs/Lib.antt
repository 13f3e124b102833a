pub mod Sorted
pub mod Verdict
pub mod Sends
pub mod Fates
pub mod Tables
pub mod Steps
pub mod Frames
pub mod Cursors
