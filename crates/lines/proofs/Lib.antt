pub mod Ends
pub mod Laws
pub mod Rows
pub mod ScanLaws
pub mod TableLaws
pub mod LineEnds
pub mod Open
