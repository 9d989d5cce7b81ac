pub use Rattle.sound_records.specs as sound_records
pub mod Laws
pub mod Named
pub mod Says
pub mod Sound
