pub use Rattle.image_text.specs as image_text
pub mod FactTests
pub mod Listed
pub mod Numbers
