-- An environment of a fragment's local variables has all of them, whatever they are given, and no others.
use Rattle.std.proofs.Common.{◌≡◌, Bool, true, false, cond, List, [], ◌∷◌, map, Option, Some, None, is_some, bytes_eq, refl, ap, sym, ◌∙◌}
use Rattle.plan_ir.specs.gql_ast.declared.variable.VariableDef.{VariableDef}
use Rattle.plan_ir.specs.gql_plain.Order.{member_at}
use Rattle.plan_ir.specs.Substitution.{default_named}
use Rattle.plan_read.specs.Laws.{AreLocals}
use Rattle.plan_read.proofs.plan_collect_laws.Evaluating.{found-with_pair}
use Rattle.plan_ir.specs.relay_marks.Locals.{locals_of}
use Rattle.plan_ir.specs.relay_marks.View.{local_view}
use Rattle.plan_ir.specs.schema_tables.Types.{Text}
use Rattle.plan_ir.specs.schema_types.Environments.{Values, environment, value_or_default}
use Rattle.plan_ir.specs.schema_types.Sites.{FragmentAt}

some_if : {A : Type 0} (b : Bool) (x : A) (o : Option A) → is_some (cond b (Some x) o) ≡ cond b true (is_some o)
some_if true x o = refl
some_if false x o = refl

environment_has : (vs : List VariableDef) (given : Values) (n : Text) → is_some (member_at (environment vs given) n) ≡ is_some (default_named (map local_view vs) n)
environment_has [] given n = refl
environment_has (v ∷ vs) given n =
    ap is_some (found-with_pair v.name (value_or_default (member_at given v.name) v.default) (environment vs given) n)
    ∙ some_if (bytes_eq v.name n) (value_or_default (member_at given v.name) v.default) (member_at (environment vs given) n)
    ∙ ap (cond (bytes_eq v.name n) true) (environment_has vs given n)
    ∙ sym (some_if (bytes_eq v.name n) (local_view v).default (default_named (map local_view vs) n))

pub are_locals : (f : FragmentAt) (vs : List VariableDef) → map local_view vs ≡ locals_of f.directives → (given : Values) → AreLocals f (environment vs given)
are_locals f vs e given n = environment_has vs given n ∙ ap (λ ls. is_some (default_named ls n)) e
