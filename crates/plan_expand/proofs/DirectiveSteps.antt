-- Directives that are printed, one after the other.
use Rattle.std.proofs.Common.{◌≡◌, Bool, true, false, cond, List, [], ◌∷◌, ◌++◌, map, refl, ap, sym, ◌∙◌}
use Rattle.std.proofs.lemmas.List.{map-append}
use Rattle.std.specs.List.{filter}
use Rattle.plan_ir.specs.gql_ast.Value.{Val, Vals, Members, variable, list, object, no_vals, val, no_members, member}
use Rattle.plan_ir.specs.gql_ast.Value as v
use Rattle.plan_ir.specs.gql_ast.declared.directive.Directive.{Directive}
use Rattle.plan_ir.specs.Expansion.{directives_such}
use Rattle.plan_ir.specs.Substitution.{Scope, operation_scope, substitute, substitute_in, substitute_items, substitute_members}
use Rattle.plan_ir.specs.schema_tables.Types.{Text}
use Rattle.plan_expand.proofs.Lists.{filter_before}

abbrev printed : Scope → Directive → Directive
printed scope d = record { name = d.name; arguments = substitute_in scope d.arguments }

pub such_before : (p : Text → Bool) (scope : Scope) (d : Directive) (ds : List Directive) → directives_such p scope (d ∷ ds) ≡ directives_such p scope (d ∷ []) ++ directives_such p scope ds
such_before p scope d ds = ap (map (printed scope)) (filter_before (λ (e : Directive). p e.name) d ds) ∙ map-append (printed scope) (filter (λ (e : Directive). p e.name) (d ∷ [])) (filter (λ (e : Directive). p e.name) ds)

-- it is printed, or left out
pub such_shown : (p : Text → Bool) (scope : Scope) (d : Directive) → p d.name ≡ true → printed scope d ∷ [] ≡ directives_such p scope (d ∷ [])
such_shown p scope d e = sym (ap (λ (b : Bool). map (printed scope) (cond b (d ∷ []) [])) e)

pub such_left : (p : Text → Bool) (scope : Scope) (d : Directive) → p d.name ≡ false → [] ≡ directives_such p scope (d ∷ [])
such_left p scope d e = sym (ap (λ (b : Bool). map (printed scope) (cond b (d ∷ []) [])) e)

-- ---- without local variables all stays

mutual
  pub same_value : (x : Val) → substitute operation_scope x ≡ x
  same_value (variable n) = refl
  same_value (v.int n) = refl
  same_value (v.text t) = refl
  same_value (v.truth b) = refl
  same_value v.null = refl
  same_value (v.enum n) = refl
  same_value (list vs) = ap list (same_items vs)
  same_value (object ms) = ap object (same_members ms)

  same_items : (vs : Vals) → substitute_items operation_scope vs ≡ vs
  same_items no_vals = refl
  same_items (val x vs) = λ i. val (same_value x i) (same_items vs i)

  same_members : (ms : Members) → substitute_members operation_scope ms ≡ ms
  same_members no_members = refl
  same_members (member n x ms) = λ i. member n (same_value x i) (same_members ms i)

pub same_arguments : (xs : List (Text × Val)) → substitute_in operation_scope xs ≡ xs
same_arguments [] = refl
same_arguments (x ∷ xs) = λ i. (x.0, same_value x.1 i) ∷ same_arguments xs i
