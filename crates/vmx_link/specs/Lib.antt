pub mod Seats
pub mod Rule
pub mod Tells
pub mod Views
pub mod Ends
