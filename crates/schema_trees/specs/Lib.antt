pub use Rattle.schema_tables.specs.gql_ast
pub use Rattle.schema_tables.specs as schema_tables
pub mod Located
pub mod LocatedView
pub mod DefinitionParts
pub mod Numbers
