pub mod PlainFrames
pub mod PlainReceive
pub mod PlainSupplies
pub mod PlainTransmit
pub mod PlainWalk
