pub mod PairLogs
pub mod Contract
