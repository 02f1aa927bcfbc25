pub mod Read
pub mod Jobs
pub mod Contract
pub mod Theorems
