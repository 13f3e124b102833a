pub mod Guests
pub mod Worlds
pub mod Ports
pub mod Notes
pub mod Moves
pub mod Starts
