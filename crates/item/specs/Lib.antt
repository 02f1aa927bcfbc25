pub mod Tree
pub mod Encode
pub mod Decode
pub mod Places
pub mod Walk
pub mod Kinds
