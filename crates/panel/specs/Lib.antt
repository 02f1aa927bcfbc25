pub mod Panel
pub mod Jobs
pub mod Programmes
pub mod Contract
