pub use Rattle.relay_marks.specs as relay_marks
pub mod Spreads
pub mod RelayRules
