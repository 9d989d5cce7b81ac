pub use Rattle.sound_records.proofs as sound_records_laws
pub mod Changes
pub mod Names
pub mod NamedSteps
pub mod Entries
pub mod Steps
