pub mod Places
pub mod Ids
pub mod Values
pub mod Numbers
pub mod Theorems
