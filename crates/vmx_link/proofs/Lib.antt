pub mod RingMoves
pub mod Kept
pub mod Looks
pub mod Stores
pub mod Parts
pub mod Notes
