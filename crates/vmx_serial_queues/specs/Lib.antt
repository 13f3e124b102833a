pub mod Walks
pub mod Queues
pub mod Forms
pub mod Small
