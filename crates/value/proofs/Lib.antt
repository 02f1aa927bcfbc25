pub mod Contents
pub mod Headers
pub mod Levels
pub mod Invariants
pub mod Open
