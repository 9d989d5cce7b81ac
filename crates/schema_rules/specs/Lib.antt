pub use Rattle.schema_trees.specs.gql_ast
pub use Rattle.gql_graph.specs as gql_graph
pub use Rattle.gql_graph.specs.gql_plain
pub use Rattle.schema_trees.specs.schema_tables
pub use Rattle.schema_trees.specs as schema_trees
pub mod Rules
pub mod Checked
pub mod First
pub mod Kinds
pub mod NamedAt
pub mod Needing
pub mod Inherited
