pub mod Said
pub mod Ends
pub mod Only
