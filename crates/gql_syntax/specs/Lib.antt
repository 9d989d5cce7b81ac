pub use Rattle.gql_ast.specs as gql_ast
pub use Rattle.gql_lex.specs as gql_lex
pub use Rattle.gql_lex.specs.gql_plain
pub mod Answers
pub mod Built
pub mod Codes
pub mod Enclosed
pub mod FirstFault
pub mod Formed
pub mod Machine
pub mod Nexts
pub mod Nodes
pub mod Parts
pub mod Places
pub mod Reads
pub mod Run
pub mod Spelling
pub mod Steps
pub mod Texts
pub mod TypeTexts
pub mod Words
