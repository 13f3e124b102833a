pub mod Guests
pub mod SmallReplays
pub mod Buffers
pub mod Kinds
pub mod Tags
pub mod RightRecord
pub mod WrongRecords
