pub mod Accepted
pub mod ReadLines
pub mod Conflicts
pub mod Steps
pub mod Responses
pub mod Unrefused
