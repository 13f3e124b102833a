pub mod Turns
pub mod Links
pub mod Notes
pub mod Kept
