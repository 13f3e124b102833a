pub mod TxSteps
pub mod RxSteps
