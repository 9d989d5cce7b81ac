pub use Rattle.schema_tables.proofs as schema_tables_laws
pub mod LocatedSteps
pub mod RepeatSteps
pub mod NumberLaws
pub mod BelowSteps
