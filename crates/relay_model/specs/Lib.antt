pub use Rattle.plan_collect.specs as plan_collect
pub mod Collection
pub mod Responses
pub mod Readings
pub mod Reaches
