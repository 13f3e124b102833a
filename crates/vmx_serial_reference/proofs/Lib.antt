pub mod WayLaws
pub mod Turns
pub mod Begins
