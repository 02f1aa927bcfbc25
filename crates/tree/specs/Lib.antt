pub mod Tree
pub mod Contract
