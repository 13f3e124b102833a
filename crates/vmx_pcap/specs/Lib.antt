pub mod Encodings
pub mod Fields
pub mod Capture
pub mod Faults
pub mod Front
pub mod Written
pub mod Pushed
pub mod Unique
