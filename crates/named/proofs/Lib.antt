pub mod Counted
pub mod Trees
pub mod Jobs
pub mod Named
