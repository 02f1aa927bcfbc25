pub mod Tree
pub mod Walks
