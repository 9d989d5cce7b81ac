pub mod Adapters
pub mod Causes
pub mod Files
pub mod Memory
pub mod Streams
