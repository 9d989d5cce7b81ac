pub use Rattle.image_marks.proofs as image_marks_laws
mod ImageLaws
mod LineExamples
pub mod RowLaws
