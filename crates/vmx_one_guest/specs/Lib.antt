pub mod Samples
pub mod Queues
pub mod Asks
