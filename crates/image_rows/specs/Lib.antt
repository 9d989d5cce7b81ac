pub use Rattle.image_text.specs as image_text
pub use Rattle.store_model.specs as store_model
pub mod Reading
pub mod RowNames
pub mod Texts
