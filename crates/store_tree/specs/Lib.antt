pub use Rattle.gql_plain.specs as gql_plain
pub mod Contents
pub mod Heights
pub mod KeyOrder
pub mod Made
pub mod Place
pub mod Shape
pub mod Written
