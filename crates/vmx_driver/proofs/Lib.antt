pub mod Evenness
