pub mod Machine
pub mod Reads
pub mod Schemas
pub mod Trees
pub mod Nodes
