pub mod Texts
pub mod Steps
pub mod Numbers
pub mod Arrays
pub mod Scripts
pub mod Guests
pub mod InRange
pub mod Plans
