pub use Rattle.gql_plain.proofs as gql_plain_laws
pub mod Kept
pub mod KeyTexts
pub mod Puts
pub mod Readable
