-- The steps that come of what a walk of the code looks at.
use Rattle.std.specs.Prelude.{ℕ, List, Some, option_copied}
use Rattle.plan_ir.specs.gql_ast.Sels.{Sels}
use Rattle.plan_ir.specs.gql_ast.declared.directive.Directive.{Directive}
use Rattle.plan_expand.specs.ScopeView.{scope_of}
use Rattle.plan_ir.specs.Reader.{Reader}
use Rattle.plan_read.specs.Reading.{entered_ready, reading, ready_scope}
use Rattle.plan_read.specs.ReadyView.{find_in, ready_of}
use Rattle.plan_read.specs.declared.fields.Field.{Field}
use Rattle.plan_read.specs.declared.fragments.ReadyFragment.{ReadyFragment}
use Rattle.plan_read.specs.declared.steps.Inside.{Inside}
use Rattle.plan_read.specs.declared.steps.Inside.TheVariants as I
use Rattle.plan_read.specs.declared.steps.Walk.{Walk}
use Rattle.plan_ir.specs.Additions.{type_or}
use Rattle.plan_ir.specs.schema_tables.Types.{Text, base_of}
use Rattle.plan_ir.specs.schema_types.Sites.{below, field_type}
use Rattle.plan_build.specs.Steps.{types_at}

abbrev pub steps_in : Walk → (types : List Text) → Sels → Reader
steps_in w ts s = reading w.spreads w.schema.now (find_in w.fragments.now) (scope_of w.scope.now) (option_copied w.over) ts s

-- what stands below a field is planned once, for the types that its static type may be
abbrev pub below_field : Walk → Field → Reader
below_field w f =
    reading w.spreads w.schema.now (find_in w.fragments.now) (scope_of w.scope.now) (below w.schema.now (option_copied w.over) f.name.now)
    (types_at w.schema.now (base_of (type_or (field_type w.schema.now (option_copied w.over) f.name.now)))) f.selections.now

-- the selections of a fragment that is spread with these directives; so many spreads may still be entered in it, one in another
abbrev pub fragment_in : Walk → List Directive → ReadyFragment → (spreads : ℕ) → (types : List Text) → Reader
fragment_in w ds f k ts = reading k w.schema.now (find_in w.fragments.now) (ready_scope (scope_of w.scope.now) ds (ready_of f)) (Some (ready_of f).on) ts f.selections.now

abbrev pub inside_in : Walk → Inside → (types : List Text) → Reader
inside_in w (I.Selections s) ts = steps_in w ts s.now
inside_in w (I.Fragment n ds f k) ts = entered_ready (scope_of w.scope.now) n.now ds.now (ready_of f.now) (fragment_in w ds.now f.now k ts)
