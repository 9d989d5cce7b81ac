pub use Rattle.relay_rules.proofs as relay_rules_laws
pub mod SpreadSteps
