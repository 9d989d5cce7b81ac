pub use Rattle.image_marks.specs as image_marks
pub use Rattle.store_model.specs as store_model
pub mod Images
pub mod Lines
pub mod Made
pub mod Rows
