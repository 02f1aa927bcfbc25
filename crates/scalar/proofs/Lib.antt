pub mod KeyLaws
pub mod Laws
pub mod QuoteLaws
pub mod Open
pub mod Copied
pub mod Written
