pub mod Sections
pub mod Rings
