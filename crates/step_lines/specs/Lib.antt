pub mod StepLines
pub mod Contract
