pub mod Rooms
pub mod Turned
pub mod Rest
pub mod LinkEnds
pub mod OtherPorts
pub mod HeldEnds
pub mod Newly
