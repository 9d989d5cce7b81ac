pub use Rattle.constant_values.proofs as constant_values_laws
pub use Rattle.constant_values.proofs.gql_graph_laws
pub use Rattle.gql_syntax.proofs.gql_lex_laws
pub use Rattle.gql_syntax.proofs as gql_syntax_laws
pub use Rattle.constant_values.proofs.schema_rules_laws
pub use Rattle.constant_values.proofs.schema_tables_laws
pub use Rattle.constant_values.proofs.schema_trees_laws
pub use Rattle.constant_values.proofs.schema_types_laws
pub mod TypeSteps
