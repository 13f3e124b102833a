pub mod Each
pub mod UpTo
pub mod Queues
pub mod Links
pub mod Registers
