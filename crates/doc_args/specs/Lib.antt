pub mod CallView
pub mod GivenNames
pub mod Literals
pub mod Directives
pub mod UsesIn
