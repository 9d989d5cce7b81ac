pub mod Printed
pub mod Collecting
pub mod Collection
pub mod SameGroups
