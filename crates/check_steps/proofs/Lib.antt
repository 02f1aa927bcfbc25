mod Names
mod Inner
mod Places
mod Steps
mod Answers
pub mod Theorems
pub mod Examples
pub mod Open
