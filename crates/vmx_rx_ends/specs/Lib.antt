pub mod Views
pub mod Opening
pub mod Standing
