pub use Rattle.store_model.specs.gql_plain
pub use Rattle.store_model.specs as store_model
pub use Rattle.store_model.specs.store_record
pub use Rattle.store_source.specs as store_source
pub mod Changes
pub mod Connections
pub mod Edits
pub mod Lists
pub mod Nodes
pub mod Pages
