pub mod Demands
pub mod Records
pub mod Contract
pub mod Panels
