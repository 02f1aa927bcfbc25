pub mod Names
pub mod CheckSteps
