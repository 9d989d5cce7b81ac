pub use Rattle.line_engine.specs.Kept
pub use Rattle.line_engine.specs.Stands
pub use Rattle.line_engine.specs.Steps
pub mod LaterLines
pub mod RetainedReads
