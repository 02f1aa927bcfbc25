pub mod Items
pub mod Steps
pub mod Texts
pub mod Placed
pub mod Made
pub mod Theorem
