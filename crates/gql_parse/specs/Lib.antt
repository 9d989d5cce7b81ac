pub use Rattle.gql_syntax.specs.gql_ast
pub use Rattle.gql_syntax.specs.gql_lex
pub use Rattle.gql_syntax.specs as gql_syntax
pub mod Documents
pub mod Trees
pub mod Nodes
pub mod Machine
pub mod Reads
