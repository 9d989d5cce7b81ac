pub use Rattle.store_sweeps.proofs as store_sweeps_laws
pub mod Begun
pub mod Changes
pub mod Drafted
pub mod Places
pub mod Rebuilt
pub mod Removed
pub mod Steps
pub mod Swept
pub mod VersionSteps
pub mod Walked
