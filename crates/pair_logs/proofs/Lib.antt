pub mod Turns
pub mod Answers
pub mod Laws
pub mod Steps
pub mod Parts
pub mod Exchange
pub mod Theorem
pub mod Examples
