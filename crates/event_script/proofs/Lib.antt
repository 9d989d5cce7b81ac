pub use Rattle.store_model.proofs as store_model_laws
pub mod CommandLists
pub mod Lines
pub mod OnlyMembers
pub mod Reading
