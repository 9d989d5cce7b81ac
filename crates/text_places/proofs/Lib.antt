pub use Rattle.gql_parse.proofs as gql_parse_laws
pub mod SchemaCounts
pub mod PlaceCounts
pub mod TokenSteps
pub mod TokenPieces
pub mod SchemaTokens
pub mod SchemaNames
pub mod DocumentCounts
pub mod DocumentTokens
pub mod DocumentNames
