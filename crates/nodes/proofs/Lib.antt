pub mod Writing
mod Numbers
pub mod Texts
pub mod Items
