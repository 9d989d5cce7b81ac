pub mod Giving
pub mod Laws
pub mod Saying
pub mod Sound
