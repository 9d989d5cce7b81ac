pub use Rattle.gql_ast.specs as gql_ast
pub use Rattle.gql_graph.specs as gql_graph
pub use Rattle.gql_graph.specs.gql_plain
pub mod TypeForms
pub mod Views
pub mod Inputs
pub mod Types
pub mod BuiltIn
pub mod Fits
pub mod Places
pub mod Members
pub mod Indexes
pub mod InputPlaces
pub mod Parts
pub mod TableParts
pub mod Kept
pub mod Means
pub mod Given
pub mod Required
pub mod Known
pub mod Objects
