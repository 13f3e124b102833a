pub mod Bytes
pub mod Ethernet
pub mod Internet
pub mod Tags
pub mod TagLaws
