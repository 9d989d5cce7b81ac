pub use Rattle.relay_rules.specs as relay_rules
pub mod GivenNames
pub mod Tables
