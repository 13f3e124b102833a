pub mod Completions
pub mod CompletionLaws
pub mod Tells
pub mod Ends
pub mod Laws
pub mod Standing
pub mod StandingLaws
