pub mod Numbers
pub mod Lawful
pub mod Wholes
pub mod Kept
pub mod Joined
