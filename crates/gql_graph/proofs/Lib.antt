pub use Rattle.gql_plain.proofs as gql_plain_laws
pub mod TextSteps
pub mod LeastSteps
pub mod SeenSteps
pub mod Graphs
pub mod Searching
pub mod Listing
pub mod RankSteps
