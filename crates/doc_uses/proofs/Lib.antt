pub use Rattle.doc_sites.proofs as doc_sites_laws
pub use Rattle.doc_sites.proofs.schema_rules_laws
pub use Rattle.doc_sites.proofs.schema_tables_laws
pub mod Steps
pub mod UseSteps
pub mod Absorbing
pub mod Gathering
pub mod NeedSteps
