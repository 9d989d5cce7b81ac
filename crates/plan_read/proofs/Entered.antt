-- The steps that the code makes, with the fragments by their names, are those of the project.
use Rattle.std.proofs.Common.{◌≡◌, ℕ, zero, suc, Bool, true, false, cond, List, [], ◌∷◌, Option, Some, None, option_map, bytes_eq, refl, ap, sym, ◌∙◌}
use Rattle.plan_ir.specs.gql_ast.Sels.{Sels}
use Rattle.plan_ir.specs.gql_ast.declared.directive.Directive.{Directive}
use Rattle.plan_ir.proofs.gql_graph_laws.TextSteps.{same_text}
use Rattle.plan_build.specs.Conditions.{conditions_of}
use Rattle.plan_ir.specs.Expansion.{Project, printed_conditions}
use Rattle.plan_ir.specs.Substitution.{Scope, scope_at_spread}
use Rattle.plan_read.specs.Reading.{Find, HasFragments, Ready, entered_ready, reading, ready_fragment, ready_scope, spread_ready}
use Rattle.plan_read.specs.Steps.{inline_steps, reader_steps, spread_steps, steps_with}
use Rattle.plan_ir.specs.schema_tables.Types.{Text}
use Rattle.plan_ir.specs.schema_types.NameRules.{fragment_named}
use Rattle.plan_ir.specs.schema_types.Sites.{FragmentAt}

-- ---- the fragment of a name has that name

fragment_first : (n : Text) (x f : FragmentAt) (rest : Option FragmentAt) → (rest ≡ Some f → f.name.name ≡ n) → cond (bytes_eq x.name.name n) (Some x) rest ≡ Some f → f.name.name ≡ n
fragment_first n x f rest more e = on (bytes_eq x.name.name n) refl e where
  on : (b : Bool) → bytes_eq x.name.name n ≡ b → cond b (Some x) rest ≡ Some f → f.name.name ≡ n
  on true g h =
      let same : x ≡ f = cc h in
      ap (λ (y : FragmentAt). y.name.name) (sym same) ∙ same_text x.name.name n g
  on false g h = more h

fragment_there : (n : Text) (fs : List FragmentAt) (f : FragmentAt) → fragment_named fs n ≡ Some f → f.name.name ≡ n
fragment_there n [] f e = cc
fragment_there n (x ∷ fs) f e = fragment_first n x f (fragment_named fs n) (fragment_there n fs f) e

-- ---- spreads

-- so many spreads give the same steps
abbrev AreSame : Project → Find → (k : ℕ) → Type 0
AreSame p find k = (scope : Scope) (over : Option Text) (ts : List Text) (s : Sels) → reading k p.defs find scope over ts s ≡ reader_steps k p scope over ts s

spread_same : (p : Project) (find : Find) (k : ℕ) → AreSame p find k → (scope : Scope) (ts : List Text) (n : Text) (ds : List Directive) (q : Option FragmentAt) → fragment_named p.fragments n ≡ q
    → spread_ready p.defs ts scope n ds (option_map ready_fragment q) (λ r us. reading k p.defs find (ready_scope scope ds r) (Some r.on) us r.selections)
    ≡ spread_steps p.defs ts scope ds q (λ f us. reader_steps k p (scope_at_spread scope ds f) (Some f.on.name) us f.selections)
spread_same p find k fewer scope ts n ds None e = refl
spread_same p find k fewer scope ts n ds (Some f) e = λ i.
    inline_steps p.defs ts (Some f.on.name) (conditions_of (printed_conditions scope ds))
    (λ us. entered_ready scope (sym (fragment_there n p.fragments f e) i) ds (ready_fragment f) (fewer (scope_at_spread scope ds f) (Some f.on.name) us f.selections i))

pub reading_is : (p : Project) (find : Find) → HasFragments find p.fragments → (k : ℕ) → AreSame p find k
reading_is p find ready zero scope over ts s = refl
reading_is p find ready (suc k) scope over ts s = λ i.
    steps_with
    (λ us n ds. (ap (λ (o : Option Ready). spread_ready p.defs us scope n ds o (λ r vs. reading k p.defs find (ready_scope scope ds r) (Some r.on) vs r.selections)) (ready n)
    ∙ spread_same p find k (reading_is p find ready k) scope us n ds (fragment_named p.fragments n) refl) i)
    p.defs scope over ts s
