pub use Rattle.store_model.specs as store_model
pub mod Seen
