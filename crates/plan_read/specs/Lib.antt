pub use Rattle.plan_build.specs.doc_merge
pub use Rattle.plan_expand.specs.doc_sites
pub use Rattle.plan_build.specs as plan_build
pub use Rattle.plan_expand.specs as plan_expand
pub use Rattle.plan_build.specs.plan_collect
pub use Rattle.plan_build.specs.relay_model
pub mod Steps
pub mod Plans
pub mod ReaderTypes
pub mod Constants
pub mod Laws
pub mod Reading
pub mod ReadyView
pub mod OperationsView
pub mod FieldView
pub mod WalkView
pub mod Preparing
pub mod Premises
