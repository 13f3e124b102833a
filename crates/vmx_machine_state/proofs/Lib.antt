pub mod Tallies
pub mod Activations
pub mod NoValue
