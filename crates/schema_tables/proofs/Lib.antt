pub use Rattle.gql_graph.proofs as gql_graph_laws
pub use Rattle.gql_ast.proofs.gql_plain_laws
pub mod Finding
pub mod Named
pub mod Literals
pub mod Grouping
pub mod Counting
pub mod Indexing
pub mod Pairs
pub mod Naming
pub mod InputsFound
pub mod FieldsFound
pub mod PartsFound
pub mod NamesDiffer
