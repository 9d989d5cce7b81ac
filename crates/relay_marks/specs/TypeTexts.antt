-- The type that a text says (GraphQL, October 2021, section 2.11).
use Rattle.std.specs.Prelude.{length, Option, Some, None, Result, Ok, Err}
use Rattle.gql_syntax.specs.gql_lex.Sources.{Source, ended, faulty, token, lex_from}
use Rattle.gql_syntax.specs.gql_ast.Ty.{Ty}
use Rattle.gql_syntax.specs.Parts.{type_read}
use Rattle.gql_syntax.specs.Run.{Stopped}
use Rattle.gql_syntax.specs.Texts.{nesting_limit}
use Rattle.constant_values.specs.gql_graph.Texts.{Text}

-- a type behind which nothing follows
abbrev pub whole : Ty → (rest : Source) → Option Ty
whole t ended = Some t
whole t (faulty code at) = None
whole t (token p rest) = None

abbrev pub read_whole : Result (Ty × Source) Stopped → Option Ty
read_whole (Ok r) = whole r.0 r.1
read_whole (Err f) = None

-- the type that the text is by itself: its tokens are those of a Type, with at most 60 list types in one another
abbrev pub type_in : Text → Option Ty
type_in t = read_whole (type_read nesting_limit (length t) (lex_from 0 t))
