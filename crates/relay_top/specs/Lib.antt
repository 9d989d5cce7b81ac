pub mod Output
pub mod Answers
pub mod Sessions
pub mod Streamed
