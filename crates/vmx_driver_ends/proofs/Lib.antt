pub mod Reaping
