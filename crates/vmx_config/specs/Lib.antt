pub mod Script
pub mod Guest
pub mod Whole
pub mod Ranges
pub mod Plans
