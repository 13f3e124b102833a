pub mod Selves
pub mod Resting
pub mod Commands
pub mod Results
