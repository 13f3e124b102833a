pub mod Draws
pub mod Frames
pub mod Setups
pub mod Plans
