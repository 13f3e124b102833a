pub mod RightRecord
pub mod WrongRecords
