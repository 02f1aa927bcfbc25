pub mod Scenario
pub mod Contract
pub mod Told
