pub mod UpTo
pub mod PassUpTo
pub mod PassUpToRx
pub mod Founds
pub mod PollUpTo
pub mod Marking
pub mod Posting
pub mod PollOne
