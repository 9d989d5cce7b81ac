pub use Rattle.store_conn.specs.gql_plain
pub use Rattle.store_conn.specs.store_model
pub use Rattle.store_conn.specs.store_record
pub use Rattle.store_conn.specs.store_source
pub mod Fields
pub mod Slots
pub mod Touched
pub mod Turns
