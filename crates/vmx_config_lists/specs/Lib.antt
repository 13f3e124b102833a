pub mod Counts
pub mod Masks
pub mod Addresses
pub mod Vlans
pub mod Entries
pub mod Keys
