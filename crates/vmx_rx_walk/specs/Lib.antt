pub mod Walking
pub mod Staging
pub mod Reading
pub mod Looking
