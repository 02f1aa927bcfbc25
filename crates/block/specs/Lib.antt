pub mod Block
pub mod Contract
