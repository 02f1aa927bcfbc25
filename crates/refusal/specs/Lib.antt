pub mod Base
pub mod Told
