pub mod Writing
pub mod Contract
