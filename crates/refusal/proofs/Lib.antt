pub mod Tools
pub mod Open
