pub use Rattle.gql_plain.specs as gql_plain
pub mod Equal
pub mod Keys
