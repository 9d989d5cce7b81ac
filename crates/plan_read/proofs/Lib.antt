pub use Rattle.plan_build.proofs.doc_merge_laws
pub use Rattle.plan_build.proofs as plan_build_laws
pub use Rattle.plan_build.proofs.plan_collect_laws
mod Tables
pub mod CodeSteps
pub mod Depths
pub mod WalkDepths
pub mod Entered
pub mod Answering
pub mod ConstantLocals
pub mod KnownDocuments
pub mod KnownNodes
pub mod KnownParts
pub mod KnownSteps
pub mod KnownValid
pub mod MarkedScopes
pub mod PlanDepth
pub mod ReaderItems
pub mod ReaderLaws
pub mod SuitedFragments
pub mod TypedReaders
pub mod Zips
