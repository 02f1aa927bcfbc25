pub mod Flow
pub mod Contract
