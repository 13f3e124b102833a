pub mod Views
pub mod Keeps
pub mod Steps
pub mod Pairs
pub mod Leaves
pub mod Quiet
pub mod New
pub mod LinkNotes
