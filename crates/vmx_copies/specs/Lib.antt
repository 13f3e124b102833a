pub mod Table
pub mod Join
