pub mod Accounts
pub mod Replays
