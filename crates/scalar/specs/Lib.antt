pub mod Scalars
pub mod Key
pub mod Read
pub mod Contract
pub mod Code
