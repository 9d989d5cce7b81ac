pub mod NameSteps
pub mod CycleSteps
