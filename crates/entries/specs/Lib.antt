pub mod Entries
pub mod Contract
