pub mod Words
pub mod Status
pub mod Lines
pub mod Filling
pub mod Ends
