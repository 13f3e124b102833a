pub mod PieceLaws
pub mod ThreeRows
pub mod Rings
pub mod Views
pub mod Shown
pub mod Moves
pub mod Parts
pub mod Driving
