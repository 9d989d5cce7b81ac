pub use Rattle.schema_types.specs.gql_ast
pub use Rattle.schema_types.specs.gql_graph
pub use Rattle.schema_types.specs.gql_plain
pub use Rattle.schema_types.specs.schema_rules
pub use Rattle.schema_types.specs.schema_tables
pub use Rattle.schema_types.specs.schema_trees
pub use Rattle.schema_types.specs as schema_types
pub mod SitesView
pub mod Firsts
pub mod Definitions
pub mod Locals
