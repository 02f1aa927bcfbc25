pub mod Joined
pub mod Open
pub mod Fields
