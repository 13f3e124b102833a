pub mod Toeplitz
pub mod Queues
pub mod Laws
