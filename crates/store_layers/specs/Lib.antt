pub use Rattle.store_update.specs.store_model
pub use Rattle.store_sweeps.specs as store_sweeps
pub mod Changed
pub mod Drafts
pub mod Layered
pub mod LayeredCode
pub mod Versions
pub mod Work
