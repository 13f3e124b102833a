pub mod Pushed
pub mod Joining
pub mod Taking
pub mod Ends
pub mod Beginning
