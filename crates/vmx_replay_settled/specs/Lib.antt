pub mod Settled
pub mod Linked
