mod CompletionMoves
mod CompletionSteps
mod Counting
mod Between
mod Showing
