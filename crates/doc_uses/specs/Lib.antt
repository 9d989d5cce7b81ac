pub use Rattle.doc_sites.specs as doc_sites
pub use Rattle.doc_sites.specs.gql_ast
pub use Rattle.doc_sites.specs.schema_rules
pub use Rattle.doc_sites.specs.schema_tables
pub use Rattle.doc_sites.specs.schema_trees
pub use Rattle.doc_sites.specs.schema_types
pub mod UseView
pub mod Named
pub mod Parts
pub mod UsesByName
pub mod Needs
pub mod FragmentUses
