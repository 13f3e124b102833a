pub mod Rest
pub mod RestLaws
pub mod Records
