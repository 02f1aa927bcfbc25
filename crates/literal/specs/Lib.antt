pub mod Literal
pub mod Contract
pub mod Walk
