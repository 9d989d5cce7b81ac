pub use Rattle.doc_merge.specs as doc_merge
pub use Rattle.relay_model.specs.plan_collect
pub use Rattle.relay_model.specs as relay_model
pub use Rattle.relay_rules.specs as relay_rules
pub mod NodesMeaning
pub mod NodesReach
pub mod Suited
pub mod Connected
pub mod NormalTypes
pub mod Meeting
pub mod FieldsAlike
pub mod Plans
pub mod Laws
pub mod Conditions
pub mod Classes
pub mod Steps
pub mod ClassView
pub mod KeptView
pub mod AroundView
pub mod KnownView
