pub mod Calls
pub mod Records
pub mod Lookups
pub mod Panels
