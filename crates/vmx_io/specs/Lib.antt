pub mod Answers
pub mod Counts
pub mod Faulty
pub mod FileList
pub mod Lends
pub mod Outside
pub mod Streams
pub mod Views
