pub mod Counting
pub mod CountingLaws
pub mod Tells
pub mod Ends
