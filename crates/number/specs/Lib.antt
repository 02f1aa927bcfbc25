pub mod Integers
pub mod Code
