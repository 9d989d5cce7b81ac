pub mod Giving
pub mod Fitting
