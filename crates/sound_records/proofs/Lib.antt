mod Slots
mod Fields
mod Puts
pub mod Commands
mod Pages
pub mod Sounds
mod Orders
pub mod Saying
pub mod Giving
