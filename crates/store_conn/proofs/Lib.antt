pub use Rattle.store_model.proofs.gql_plain_laws
pub use Rattle.store_model.proofs as store_model_laws
pub mod Cases
pub mod Looks
pub mod Merges
pub mod Puts
pub mod Sets
pub mod Steps
pub mod Wanted
