-- The local variables of a fragment are valued as the variables of an operation are.
use Rattle.std.proofs.Common.{◌≡◌, Bool, not, ◌&&◌, cond, List, [], ◌∷◌, map, Option, Some, None, is_some, option_map, refl, ap, sym, ◌∙◌}
use Rattle.plan_ir.specs.gql_ast.ValueView.{value_of}
use Rattle.plan_ir.specs.gql_ast.TypeView.{ty_of}
use Rattle.plan_ir.specs.gql_ast.declared.value.ValueTree.{ValueTree}
use Rattle.plan_ir.specs.gql_ast.declared.variable.VariableDef.{VariableDef}
use Rattle.plan_ir.specs.gql_plain.Order.{member_at}
use Rattle.plan_ir.specs.gql_plain.Tree.{Tree}
use Rattle.plan_ir.specs.relay_marks.View.{local_view}
use Rattle.relay_machine.specs.Machine as machine
use Rattle.plan_ir.specs.schema_tables.Fits.{is_non_null}
use Rattle.plan_ir.specs.schema_tables.Types.{Defs}
use Rattle.plan_ir.specs.schema_types.Environments.{Failure, Values, environment, failure_of, first_failure, first_of, missing, value_or_default, with_pair}

-- ---- failures

has_default : (default : Option ValueTree) → is_some (option_map value_of default) ≡ is_some default
has_default None = refl
has_default (Some v) = refl

same_failure : (defs : Defs) (d : VariableDef) (x : Option Tree) → failure_of defs d x ≡ machine.local_failure defs (local_view d) x
same_failure defs d None = ap (λ (b : Bool). cond {A = Option Failure} (is_non_null (ty_of d.of) && not b) (Some (missing d.name)) None) (sym (has_default d.default))
same_failure defs d (Some x) = refl

pub same_failures : (defs : Defs) (ds : List VariableDef) (given : Values) → first_failure defs ds given ≡ machine.first_local_failure defs (map local_view ds) given
same_failures defs [] given = refl
same_failures defs (d ∷ ds) given =
    ap (λ (f : Option Failure). first_of f (first_failure defs ds given)) (same_failure defs d (member_at given d.name))
    ∙ ap (first_of (machine.local_failure defs (local_view d) (member_at given d.name))) (same_failures defs ds given)

-- ---- values

same_value : (x : Option Tree) (default : Option ValueTree) → value_or_default x default ≡ machine.given_or x (machine.default_of (option_map value_of default))
same_value (Some x) default = refl
same_value None None = refl
same_value None (Some v) = refl

pub same_scopes : (ds : List VariableDef) (given : Values) → environment ds given ≡ machine.scope_given (map local_view ds) given
same_scopes [] given = refl
same_scopes (d ∷ ds) given =
    ap (λ (x : Tree). with_pair d.name x (environment ds given)) (same_value (member_at given d.name) d.default)
    ∙ ap (with_pair d.name (machine.given_or (member_at given d.name) (machine.default_of (option_map value_of d.default)))) (same_scopes ds given)
