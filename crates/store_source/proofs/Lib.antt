pub mod InMemory
pub mod InTree
pub mod Laid
