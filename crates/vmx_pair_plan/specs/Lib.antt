pub mod Plan
pub mod Lengths
pub mod Fates
pub mod Summary
