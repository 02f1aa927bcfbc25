pub mod Utf8
pub mod White
pub mod Part
pub mod Points
pub mod Contract
pub mod Places
