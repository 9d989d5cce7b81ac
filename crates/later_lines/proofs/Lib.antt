pub mod AlikeReads
pub mod AlikeSteps
pub mod Sweeping
