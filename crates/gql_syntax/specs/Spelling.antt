-- How values, arguments, directives and types are written (GraphQL, October 2021, sections 2.6, 2.9, 2.11 and 2.12).
-- Each definition gives the tokens of a tree, and behind them those that are given. `mark` says what is kept of a token, of
-- the number of the list or object, or of the list type, that it opens, the outermost being 1 (0 where it opens none), and
-- of the number of the nodes of the tree that begin at it. `around` counts what is open there already.
use Rattle.std.specs.Prelude.{ℕ, ◌+◌, List, [], ◌∷◌, Option, Some, None}
use Rattle.gql_lex.specs.Toks as tok
use Rattle.gql_lex.specs.Toks.{Tok}
use Rattle.gql_ast.specs.Value.{Val, Vals, Members, variable, int, text, truth, null, enum, list, object, no_vals, val, no_members, member, members_of}
use Rattle.gql_ast.specs.ValueView.{value_of}
use Rattle.gql_ast.specs.Ty as ty
use Rattle.gql_ast.specs.Ty.{Ty}
use Rattle.gql_ast.specs.declared.directive.Directive.{Directive}
use Rattle.gql_ast.specs.declared.value.ValueTree.{ValueTree}
use Rattle.gql_syntax.specs.Words.{truth_word, null_word}

abbrev pub Mark : Type 0 → Type 0
Mark X = Tok → (level nodes : ℕ) → X

-- a token that opens nothing that is counted
abbrev pub plain : {X : Type 0} → Mark X → Tok → (nodes : ℕ) → X
plain mark t nodes = mark t 0 nodes

-- `$` Name, Int, Text, `true`, `false`, `null`, EnumName, `[` Value* `]`, `{` (Name `:` Value)* `}`
abbrev mutual
  pub spell_value : {X : Type 0} → Mark X → Val → (around : ℕ) → List X → List X
  spell_value mark (variable n) around ts = plain mark tok.dollar 1 ∷ plain mark (tok.name n) 1 ∷ ts
  spell_value mark (int n) around ts = plain mark (tok.int n) 1 ∷ ts
  spell_value mark (text t) around ts = plain mark (tok.text t) 1 ∷ ts
  spell_value mark (truth b) around ts = plain mark (tok.name (truth_word b)) 1 ∷ ts
  spell_value mark null around ts = plain mark (tok.name null_word) 1 ∷ ts
  spell_value mark (enum n) around ts = plain mark (tok.name n) 2 ∷ ts
  spell_value mark (list vs) around ts =
      mark tok.open_bracket (around + 1) 1 ∷ spell_values mark vs (around + 1) (plain mark tok.close_bracket 0 ∷ ts)
  spell_value mark (object ms) around ts =
      mark tok.open_brace (around + 1) 1 ∷ spell_members mark ms (around + 1) (plain mark tok.close_brace 0 ∷ ts)

  pub spell_values : {X : Type 0} → Mark X → Vals → (around : ℕ) → List X → List X
  spell_values mark no_vals around ts = ts
  spell_values mark (val v vs) around ts = spell_value mark v around (spell_values mark vs around ts)

  pub spell_members : {X : Type 0} → Mark X → Members → (around : ℕ) → List X → List X
  spell_members mark no_members around ts = ts
  spell_members mark (member n v ms) around ts =
      plain mark (tok.name n) 2 ∷ plain mark tok.colon 0 ∷ spell_value mark v around (spell_members mark ms around ts)

-- none, or `(` (Name `:` Value)+ `)`
abbrev pub spell_arguments : {X : Type 0} → Mark X → List (List ℕ × Val) → List X → List X
spell_arguments mark [] ts = ts
spell_arguments mark (a ∷ more) ts =
    plain mark tok.open_paren 0 ∷ spell_members mark (members_of (a ∷ more)) 0 (plain mark tok.close_paren 0 ∷ ts)

-- (`@` Name Args?)*
abbrev pub spell_directives : {X : Type 0} → Mark X → List Directive → List X → List X
spell_directives mark [] ts = ts
spell_directives mark (d ∷ ds) ts =
    plain mark tok.at_sign 1 ∷ plain mark (tok.name d.name) 1 ∷ spell_arguments mark d.arguments (spell_directives mark ds ts)

-- (Name | `[` Type `]`) `!`?; `above` nodes begin at the first token already
abbrev pub spell_type : {X : Type 0} → Mark X → Ty → (around above : ℕ) → List X → List X
spell_type mark (ty.named n) around above ts = plain mark (tok.name n) (above + 2) ∷ ts
spell_type mark (ty.list t) around above ts =
    mark tok.open_bracket (around + 1) (above + 1) ∷ spell_type mark t (around + 1) 0 (plain mark tok.close_bracket 0 ∷ ts)
spell_type mark (ty.non_null t) around above ts = spell_type mark t around (above + 1) (plain mark tok.bang 0 ∷ ts)

-- none, or `=` Value
abbrev pub spell_default : {X : Type 0} → Mark X → Option ValueTree → List X → List X
spell_default mark None ts = ts
spell_default mark (Some v) ts = plain mark tok.equals 0 ∷ spell_value mark (value_of v) 0 ts
