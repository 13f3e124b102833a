pub mod FirstFault
pub mod Macs
pub mod Totals
pub mod Whole
