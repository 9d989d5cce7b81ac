pub use Rattle.gql_plain.specs as gql_plain
pub mod Heads
pub mod Ranks
