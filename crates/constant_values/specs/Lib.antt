pub use Rattle.schema_types.specs.gql_graph
pub use Rattle.schema_types.specs.schema_rules
pub use Rattle.schema_types.specs.schema_tables
pub use Rattle.schema_types.specs.schema_trees
pub use Rattle.schema_types.specs as schema_types
pub mod Fittings
pub mod Listed
