pub use Rattle.relay_model.specs.plan_collect
pub use Rattle.relay_model.specs as relay_model
pub mod Bulk
pub mod Effects
pub mod Machine
pub mod Printed
pub mod Refusals
pub mod Script
