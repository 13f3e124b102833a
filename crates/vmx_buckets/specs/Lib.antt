pub mod Buckets
