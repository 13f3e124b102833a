pub mod Threads
pub mod Said
pub mod Ends
pub mod Only
