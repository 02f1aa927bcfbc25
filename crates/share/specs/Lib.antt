pub mod Share
pub mod Contract
