pub mod Going
pub mod Due
