pub mod Views
pub mod States
pub mod Stopped
pub mod Statistics
pub mod Sums
pub mod Images
pub mod Ends
pub mod Readings
