pub mod PutSteps
pub mod WalkSteps
pub mod TextSteps
pub mod GroupSteps
pub mod ValueSteps
