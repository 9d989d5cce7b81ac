pub use Rattle.gql_graph.proofs as gql_graph_laws
pub use Rattle.gql_graph.proofs.gql_plain_laws
pub use Rattle.schema_trees.proofs.schema_tables_laws
pub use Rattle.schema_trees.proofs as schema_trees_laws
pub mod SchemaRows
pub mod FoundAt
pub mod NeededTypes
pub mod WantedSteps
pub mod SettledSteps
pub mod RulePlaces
pub mod InheritedSteps
