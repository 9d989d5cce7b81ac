pub use Rattle.gql_plain.specs as gql_plain
pub mod Answers
pub mod Characters
pub mod Codes
pub mod Counted
pub mod Descriptions
pub mod Heads
pub mod Lexemes
pub mod Lines
pub mod Numbers
pub mod Sources
pub mod Strings
pub mod Toks
pub mod Values
