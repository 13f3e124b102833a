pub mod Rings
pub mod Steps
pub mod RingLaws
