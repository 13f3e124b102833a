pub mod Rows
pub mod Mates
pub mod InTurn
pub mod Lists
pub mod Counts
pub mod Actors
pub mod Whole
pub mod Parted
