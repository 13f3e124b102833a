pub mod Words
pub mod Shapes
pub mod Rule
pub mod Seats
pub mod Tells
