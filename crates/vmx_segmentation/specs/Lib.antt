pub mod Header
pub mod Cuts
