pub mod Ends
pub mod NoteView
pub mod FactsView
