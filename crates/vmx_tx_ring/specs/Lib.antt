pub mod Pieces
pub mod Rule
pub mod Seats
pub mod Tells
pub mod Walks
