pub mod Ends
pub mod NoteView
pub mod FactsView
pub mod Counting
pub mod StandingLaws
