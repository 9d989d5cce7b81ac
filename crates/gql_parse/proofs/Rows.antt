-- Texts, as tokens, that are documents, and such that are none.
use Rattle.std.proofs.Common.{◌≡◌, ℕ, codes, List, [], ◌∷◌, Some, None, Result, Ok, Err, pos, refl}
use Rattle.gql_syntax.specs.gql_lex.Toks as tok
use Rattle.gql_syntax.specs.gql_lex.Toks.{Tok}
use Rattle.gql_syntax.specs.gql_ast.Sels.{Sels, end, field, spread, inline}
use Rattle.gql_syntax.specs.gql_ast.Ty as ty
use Rattle.gql_syntax.specs.gql_ast.Value.{int}
use Rattle.gql_syntax.specs.gql_ast.declared.document.Definition.TheVariants as D
use Rattle.gql_syntax.specs.gql_ast.declared.document.Kind.TheVariants.{Query, Mutation, Subscription}
use Rattle.gql_syntax.specs.gql_ast.declared.type_tree.TypeTree.TheVariants as T
use Rattle.gql_syntax.specs.gql_ast.declared.value.ValueTree.TheVariants as V
use Rattle.gql_parse.specs.Documents.{bare, full, documents, nodes_of}
use Rattle.gql_parse.specs.Machine.{State, between, advance, finish}
use Rattle.gql_syntax.proofs.Laws.{reach}
use Rattle.gql_syntax.specs.Run.{Halt, unexpected, too_deep}

-- what may stand in one another: two
abbrev read : List Tok → Result State Halt
read ts = reach (advance 2) (between []) ts

abbrev name : List ℕ → Tok
name n = tok.name n

abbrev alone : List ℕ → Sels
alone n = field None n [] [] end end

-- { a }
set_alone : read (tok.open_brace ∷ name (codes "a") ∷ tok.close_brace ∷ []) ≡ Ok (between (bare (alone (codes "a")) ∷ []))
set_alone = refl

-- { a: b }
alias : read (tok.open_brace ∷ name (codes "a") ∷ tok.colon ∷ name (codes "b") ∷ tok.close_brace ∷ [])
    ≡ Ok (between (bare (field (Some (codes "a")) (codes "b") [] [] end end) ∷ []))
alias = refl

-- { a(b: 1) { c } }
arguments_and_set : read (tok.open_brace ∷ name (codes "a") ∷ tok.open_paren ∷ name (codes "b") ∷ tok.colon ∷ tok.int (pos 1) ∷ tok.close_paren
    ∷ tok.open_brace ∷ name (codes "c") ∷ tok.close_brace ∷ tok.close_brace ∷ [])
    ≡ Ok (between (bare (field None (codes "a") ((codes "b", int (pos 1)) ∷ []) [] (alone (codes "c")) end) ∷ []))
arguments_and_set = refl

-- { ...a @b ... { c } }
spreads : read (tok.open_brace ∷ tok.spread ∷ name (codes "a") ∷ tok.at_sign ∷ name (codes "b") ∷ tok.spread ∷ tok.open_brace ∷ name (codes "c") ∷ tok.close_brace ∷ tok.close_brace ∷ [])
    ≡ Ok (between (bare (spread (codes "a") (record { name = codes "b"; arguments = [] } ∷ []) (inline None [] (alone (codes "c")) end)) ∷ []))
spreads = refl

-- { ... on A { b } }
type_condition : read (tok.open_brace ∷ tok.spread ∷ name (codes "on") ∷ name (codes "A") ∷ tok.open_brace ∷ name (codes "b") ∷ tok.close_brace ∷ tok.close_brace ∷ [])
    ≡ Ok (between (bare (inline (Some (codes "A")) [] (alone (codes "b")) end) ∷ []))
type_condition = refl

-- query ($a: B! = 1) { c }
variables : read (name (codes "query") ∷ tok.open_paren ∷ tok.dollar ∷ name (codes "a") ∷ tok.colon ∷ name (codes "B") ∷ tok.bang ∷ tok.equals ∷ tok.int (pos 1) ∷ tok.close_paren
    ∷ tok.open_brace ∷ name (codes "c") ∷ tok.close_brace ∷ [])
    ≡ Ok (between (full (D.Operation (record {
      kind = Query;
      name = None;
      variables = record { name = codes "a"; of = T.NonNull (ty.named (codes "B")); default = Some (V.Int (pos 1)); directives = [] } ∷ [];
      directives = [];
      selections = alone (codes "c");
    })) ∷ []))
variables = refl

-- mutation A { b } subscription { c }
two : read (name (codes "mutation") ∷ name (codes "A") ∷ tok.open_brace ∷ name (codes "b") ∷ tok.close_brace ∷ name (codes "subscription") ∷ tok.open_brace ∷ name (codes "c") ∷ tok.close_brace ∷ [])
    ≡ Ok (between (full (D.Operation (record { kind = Mutation; name = Some (codes "A"); variables = []; directives = []; selections = alone (codes "b") }))
    ∷ full (D.Operation (record { kind = Subscription; name = None; variables = []; directives = []; selections = alone (codes "c") })) ∷ []))
two = refl

-- fragment a on B { c }
fragment_alone : read (name (codes "fragment") ∷ name (codes "a") ∷ name (codes "on") ∷ name (codes "B") ∷ tok.open_brace ∷ name (codes "c") ∷ tok.close_brace ∷ [])
    ≡ Ok (between (full (D.Fragment (record { name = codes "a"; on = codes "B"; directives = []; selections = alone (codes "c") })) ∷ []))
fragment_alone = refl

-- none
nothing : finish (between []) ≡ None
nothing = refl

-- { }
empty_set : read (tok.open_brace ∷ tok.close_brace ∷ []) ≡ Err unexpected
empty_set = refl

-- query () { a }
no_variable : read (name (codes "query") ∷ tok.open_paren ∷ tok.close_paren ∷ []) ≡ Err unexpected
no_variable = refl

-- fragment on
fragment_called_on : read (name (codes "fragment") ∷ name (codes "on") ∷ []) ≡ Err unexpected
fragment_called_on = refl

-- query ($a: B = $
variable_in_default : read (name (codes "query") ∷ tok.open_paren ∷ tok.dollar ∷ name (codes "a") ∷ tok.colon ∷ name (codes "B") ∷ tok.equals ∷ tok.dollar ∷ []) ≡ Err unexpected
variable_in_default = refl

-- { a { b {
third_set : read (tok.open_brace ∷ name (codes "a") ∷ tok.open_brace ∷ name (codes "b") ∷ tok.open_brace ∷ []) ≡ Err too_deep
third_set = refl

-- { a(b: [[[
third_list : read (tok.open_brace ∷ name (codes "a") ∷ tok.open_paren ∷ name (codes "b") ∷ tok.colon ∷ tok.open_bracket ∷ tok.open_bracket ∷ tok.open_bracket ∷ []) ≡ Err too_deep
third_list = refl

-- a: b in a set alone: the document, its definition and the operation; the selection and its alias; the name
nodes_of_alias : nodes_of (bare (field (Some (codes "a")) (codes "b") [] [] end end) ∷ []) ≡ 3 ∷ 2 ∷ 0 ∷ 1 ∷ 0 ∷ []
nodes_of_alias = refl

levels_of_sets : documents.levels (bare (field None (codes "a") [] [] (alone (codes "b")) end) ∷ []) ≡ 1 ∷ 0 ∷ 2 ∷ 0 ∷ 0 ∷ 0 ∷ []
levels_of_sets = refl
