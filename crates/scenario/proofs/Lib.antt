mod Invariants
mod Writing
mod Reading
mod KeepsRules
pub mod AnyWork
pub mod Demand
pub mod Lent
pub mod ReadScenario
pub mod Starred
pub mod Examples
pub mod Open
