pub mod Walks
pub mod Ways
pub mod Stagings
pub mod Readings
pub mod Frames
pub mod Looks
