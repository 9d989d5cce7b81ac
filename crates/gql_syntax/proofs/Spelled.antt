-- How values and members are written that stand behind others.
use Rattle.std.proofs.Common.{◌≡◌, ℕ, List, [], ◌∷◌, ◌++◌, refl, ap}
use Rattle.gql_lex.specs.Toks as tok
use Rattle.gql_ast.specs.Value.{Val, Vals, Members, no_vals, val, no_members, member, members_of}
use Rattle.gql_ast.specs.declared.directive.Directive.{Directive}
use Rattle.gql_syntax.specs.Machine.{vals_then, members_then}
use Rattle.gql_syntax.specs.Spelling.{Mark, plain, spell_value, spell_values, spell_members, spell_arguments, spell_directives}

module _ {X : Type 0} (mark : Mark X) (around : ℕ) (ts : List X) where
  pub values_behind : (vs : Vals) (v : Val) → spell_values mark (vals_then vs v) around ts ≡ spell_values mark vs around (spell_value mark v around ts)
  values_behind no_vals v = refl
  values_behind (val w vs) v = ap (λ r. spell_value mark w around r) (values_behind vs v)

  pub members_behind : (ms : Members) (n : List ℕ) (v : Val) → spell_members mark (members_then ms n v) around ts
      ≡ spell_members mark ms around (plain mark (tok.name n) 2 ∷ plain mark tok.colon 0 ∷ spell_value mark v around ts)
  members_behind no_members n v = refl
  members_behind (member m w ms) n v = ap (λ r. plain mark (tok.name m) 2 ∷ plain mark tok.colon 0 ∷ spell_value mark w around r) (members_behind ms n v)

pub arguments_some : {X : Type 0} (mark : Mark X) (xs : List (List ℕ × Val)) (x : List ℕ × Val) (ts : List X)
    → spell_arguments mark (xs ++ x ∷ []) ts ≡ plain mark tok.open_paren 0 ∷ spell_members mark (members_of (xs ++ x ∷ [])) 0 (plain mark tok.close_paren 0 ∷ ts)
arguments_some mark [] x ts = refl
arguments_some mark (y ∷ xs) x ts = refl

pub directives_behind : {X : Type 0} (mark : Mark X) (ds : List Directive) (d : Directive) (ts : List X) → spell_directives mark (ds ++ d ∷ []) ts
    ≡ spell_directives mark ds (plain mark tok.at_sign 1 ∷ plain mark (tok.name d.name) 1 ∷ spell_arguments mark d.arguments ts)
directives_behind mark [] d ts = refl
directives_behind mark (e ∷ ds) d ts = ap (λ r. plain mark tok.at_sign 1 ∷ plain mark (tok.name e.name) 1 ∷ spell_arguments mark e.arguments r) (directives_behind mark ds d ts)
