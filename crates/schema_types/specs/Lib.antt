pub use Rattle.schema_rules.specs.gql_ast
pub use Rattle.schema_rules.specs.gql_graph
pub use Rattle.schema_rules.specs.gql_plain
pub use Rattle.schema_rules.specs as schema_rules
pub use Rattle.schema_rules.specs.schema_tables
pub use Rattle.schema_rules.specs.schema_trees
pub mod Sites
pub mod NameRules
pub mod FieldRules
pub mod ArgumentRules
pub mod DocumentRules
pub mod Environments
pub mod SiteNumbers
