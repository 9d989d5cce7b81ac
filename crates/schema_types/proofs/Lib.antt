pub use Rattle.schema_rules.proofs.gql_graph_laws
pub use Rattle.schema_rules.proofs.gql_plain_laws
pub use Rattle.schema_rules.proofs as schema_rules_laws
pub use Rattle.schema_rules.proofs.schema_tables_laws
pub use Rattle.schema_rules.proofs.schema_trees_laws
pub mod DocumentRows
pub mod SiteNumberLaws
pub mod RulePlaces
