pub mod EndViews
pub mod Pushes
pub mod Forms
