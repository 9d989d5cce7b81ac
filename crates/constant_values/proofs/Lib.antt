pub use Rattle.schema_types.proofs.gql_graph_laws
pub use Rattle.schema_types.proofs.schema_rules_laws
pub use Rattle.schema_types.proofs.schema_tables_laws
pub use Rattle.schema_types.proofs.schema_trees_laws
pub use Rattle.schema_types.proofs as schema_types_laws
pub mod Placing
pub mod Evaluating
pub mod FittingLaws
pub mod ConstantValues
