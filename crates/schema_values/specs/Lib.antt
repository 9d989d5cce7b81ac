pub mod Failures
pub mod Means
