pub mod Drawing
pub mod Making
pub mod Totals
pub mod Tables
pub mod Guests
