pub mod Gathered
pub mod Typed
pub mod Accepted
