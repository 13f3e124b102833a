pub mod Keys
pub mod Noted
pub mod Link
pub mod LinkByLink
