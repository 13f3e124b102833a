pub mod TxRing
pub mod TxPlays
pub mod TxNeeds
pub mod TxEnds
pub mod RxRing
pub mod RxPlays
pub mod RxSums
pub mod RxEnds
