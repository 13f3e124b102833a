pub mod Views
pub mod Switch
pub mod Linking
pub mod Made
