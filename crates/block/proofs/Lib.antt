pub mod Parts
pub mod Places
pub mod Progress
pub mod Cases
pub mod Judging
pub mod Invariants
pub mod Turns
pub mod Open
