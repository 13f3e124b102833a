pub mod FateLaws
