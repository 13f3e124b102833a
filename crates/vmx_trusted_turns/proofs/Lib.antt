pub mod Trust
pub mod Looked
