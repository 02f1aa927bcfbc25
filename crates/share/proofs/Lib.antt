pub mod Laws
pub mod Turns
pub mod Theorem
pub mod Examples
