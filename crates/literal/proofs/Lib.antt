pub mod Blanks
pub mod Ends
pub mod Laws
pub mod Whole
pub mod Open
