pub use Rattle.gql_parse.specs as gql_parse
pub use Rattle.gql_sdl.specs as gql_sdl
pub mod Naming
pub mod DocumentNaming
