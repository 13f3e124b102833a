pub mod Small
pub mod Seats
