pub use Rattle.constant_values.specs as constant_values
pub use Rattle.gql_syntax.specs.gql_ast
pub use Rattle.constant_values.specs.gql_graph
pub use Rattle.gql_syntax.specs.gql_lex
pub use Rattle.gql_syntax.specs as gql_syntax
pub use Rattle.constant_values.specs.schema_rules
pub use Rattle.constant_values.specs.schema_tables
pub use Rattle.constant_values.specs.schema_trees
pub use Rattle.constant_values.specs.schema_types
pub mod TypeTexts
pub mod Locals
pub mod Connections
pub mod View
