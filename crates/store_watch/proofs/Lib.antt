pub mod Found
pub mod Held
pub mod Lookups
pub mod Named
pub mod Places
pub mod Sound
pub mod Told
