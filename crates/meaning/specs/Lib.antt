pub mod Meaning
pub mod Record
pub mod Sound
pub mod Rules
pub mod Meanings
pub mod Fields
