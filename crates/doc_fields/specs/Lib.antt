pub mod Bases
pub mod Fragments
pub mod Keys
pub mod Heads
pub mod Common
