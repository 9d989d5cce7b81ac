pub mod Entries
pub mod Newest
pub mod Records
