pub use Rattle.gql_syntax.proofs as gql_syntax_laws
pub mod Shapes
pub mod Fronts
pub mod Standing
pub mod Steps
pub mod Lifts
pub mod Complete
pub mod Ends
pub mod Mapped
pub mod DocumentLaws
pub mod Courses
pub mod Heads
pub mod Passing
pub mod Members
pub mod SoFar
pub mod Whole
mod Rows
pub mod NodeCounts
