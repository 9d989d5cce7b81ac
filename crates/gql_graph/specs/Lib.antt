pub use Rattle.gql_plain.specs as gql_plain
pub mod Texts
pub mod Rules
pub mod Leasts
pub mod Seen
pub mod Reached
pub mod Graphs
pub mod Ranks
