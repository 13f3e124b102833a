mod NeededLaws
mod RxSteps
mod RxWays
mod SupplyLaws
mod WalkOfSupplies
mod TxEvents
