pub use Rattle.gql_plain.proofs as gql_plain_laws
pub mod Selecting
