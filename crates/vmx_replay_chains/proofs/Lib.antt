pub mod Ons
pub mod Beside
pub mod Stays
pub mod Told
pub mod Paired
pub mod AsMany
pub mod Following
pub mod Targeting
