pub mod SmallLaws
pub mod Scripts
