pub mod Examples
pub mod Progress
pub mod Cases
pub mod Sums
pub mod Invariants
pub mod Values
pub mod Open
