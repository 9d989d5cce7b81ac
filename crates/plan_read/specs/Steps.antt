-- Which steps come of selections that are read by the masked form, where the records are of these types: a spread that is not masked is
-- entered, each other one is a pointer, and local variables give way to their values.
use Rattle.std.specs.Prelude.{ℕ, zero, suc, Bool, true, false, cond, List, [], ◌∷◌, codes, Option, Some, None, bytes_eq}
use Rattle.plan_ir.specs.gql_ast.Sels as sels
use Rattle.plan_ir.specs.gql_ast.Sels.{Sels}
use Rattle.plan_ir.specs.gql_ast.declared.directive.Directive.{Directive}
use Rattle.plan_build.specs.Classes.{Class, Target, classes_of}
use Rattle.plan_build.specs.Conditions.{conditions_of}
use Rattle.plan_build.specs.Steps.{FieldNode, are_within, identified, is_one, types_at}
use Rattle.plan_ir.specs.Additions.{is_abstract, type_or}
use Rattle.plan_ir.specs.Expansion.{Project, name_or, printed_conditions, response_key, spreads_in}
use Rattle.plan_ir.specs.Reader.{Reader, done, typename, leaf, object, guarded, pointer, pointer_inline, reader_append}
use Rattle.plan_ir.specs.Substitution.{Arguments, Scope, arguments_at_spread, operation_scope, scope_at_spread, scope_of_own, substitute_in, value_or}
use Rattle.plan_ir.specs.declared.guard.Condition.{Condition}
use Rattle.plan_ir.specs.relay_marks.Connections.{connection_among, value_of_name}
use Rattle.plan_ir.specs.relay_marks.Locals.{Local, locals_of}
use Rattle.plan_build.specs.relay_model.Collection.{is_inline, is_open}
use Rattle.plan_ir.specs.schema_tables.Types.{Text, Defs, base_of, is_composite, possible, root}
use Rattle.plan_ir.specs.schema_types.NameRules.{fragment_named}
use Rattle.plan_ir.specs.schema_types.Sites.{FragmentAt, OperationAt, below, condition_or, field_type}

-- ---- guards

-- steps behind a guard; nothing to test is no guard
abbrev pub behind : (types : Option (List Text)) → List Condition → Reader → Reader
behind None [] child = child
behind types conditions child = guarded (record { types = types; conditions = conditions }) child done

-- ---- fields

abbrev pub leaf_step : FieldNode → Reader
leaf_step f = leaf f.response f.name f.arguments done

abbrev pub object_step : Defs → FieldNode → Target → (child : Reader) → Reader
object_step defs f t child =
    object f.response f.name f.arguments t.many (possible defs t.base) (identified defs t.base) (is_abstract defs t.base) f.connection child done

abbrev pub target_step : Defs → FieldNode → (child : Reader) → Target → Reader
target_step defs f child t = cond (is_composite defs t.base) (object_step defs f t child) (leaf_step f)

-- a step for each class
abbrev pub guarded_classes : (step : Target → Reader) → List Class → Reader
guarded_classes step [] = done
guarded_classes step (c ∷ cs) = guarded (record { types = Some c.types; conditions = [] }) (step c.target) (guarded_classes step cs)

-- one class alone wants no guard
abbrev pub class_steps : (step : Target → Reader) → List Class → Reader
class_steps step (c ∷ []) = step c.target
class_steps step cs = guarded_classes step cs

abbrev pub field_steps : Defs → List Text → FieldNode → (child : Reader) → Reader
field_steps defs ts f child =
    cond (bytes_eq f.name (codes "__typename")) (typename f.response done) (class_steps (target_step defs f child) (classes_of defs f.name ts))

-- ---- inline fragments and spreads

-- where each type around is of the fragment's type there is no test of types; where it is one type alone that is not, nothing is taken
abbrev pub on_steps : Defs → List Text → (on : Text) → List Condition → (inner : List Text → Reader) → Reader
on_steps defs ts o cs inner =
    cond (are_within (possible defs o) ts) (behind None cs (inner ts)) (cond (is_one ts) done (behind (Some (possible defs o)) cs (inner (possible defs o))))

abbrev pub inline_steps : Defs → List Text → (on : Option Text) → List Condition → (inner : List Text → Reader) → Reader
inline_steps defs ts None cs inner = behind None cs (inner ts)
inline_steps defs ts (Some o) cs inner = cond (is_composite defs o) (on_steps defs ts o cs inner) done

-- the value that a spread gives each local variable, else its default, else null, in written order
abbrev pub pointer_arguments : Scope → List Directive → List Local → Arguments
pointer_arguments scope ds [] = []
pointer_arguments scope ds (l ∷ ls) = (l.name, value_or (value_of_name (arguments_at_spread scope ds) l.name) l.default) ∷ pointer_arguments scope ds ls

abbrev pub pointer_step : (fragment : Text) → Arguments → (inline : Bool) → (body : Reader) → Reader
pointer_step f xs false body = pointer f xs done
pointer_step f xs true body = pointer_inline f xs body done

-- `inside` gives the steps of the fragment's selections
abbrev pub entered_steps : Scope → List Directive → FragmentAt → (inside : Reader) → Reader
entered_steps scope ds f inside = cond (is_open ds) inside (pointer_step f.name.name (pointer_arguments scope ds (locals_of f.directives)) (is_inline f) inside)

abbrev pub spread_steps : Defs → List Text → Scope → List Directive → Option FragmentAt → (inside : FragmentAt → List Text → Reader) → Reader
spread_steps defs ts scope ds None inside = done
spread_steps defs ts scope ds (Some f) inside =
    inline_steps defs ts (Some f.on.name) (conditions_of (printed_conditions scope ds)) (λ us. entered_steps scope ds f (inside f us))

-- ---- selections

-- `enter` gives the steps of a spread
abbrev pub steps_with : (enter : List Text → Text → List Directive → Reader) → Defs → Scope → (around : Option Text) → List Text → Sels → Reader
steps_with enter defs scope over ts sels.end = done
steps_with enter defs scope over ts (sels.field a n xs ds s rest) =
    reader_append
    (behind None (conditions_of (printed_conditions scope ds))
    (field_steps defs ts (record { response = response_key a n; name = n; arguments = substitute_in scope xs; connection = connection_among ds })
    (steps_with enter defs scope (below defs over n) (types_at defs (base_of (type_or (field_type defs over n)))) s)))
    (steps_with enter defs scope over ts rest)
steps_with enter defs scope over ts (sels.spread n ds rest) = reader_append (enter ts n ds) (steps_with enter defs scope over ts rest)
steps_with enter defs scope over ts (sels.inline o ds s rest) =
    reader_append (inline_steps defs ts o (conditions_of (printed_conditions scope ds)) (λ us. steps_with enter defs scope (condition_or over o) us s)) (steps_with enter defs scope over ts rest)

-- so many spreads may still be entered, one in another
abbrev pub reader_steps : (spreads : ℕ) → Project → Scope → (around : Option Text) → (types : List Text) → Sels → Reader
reader_steps zero p scope over ts s = steps_with (λ us n ds. done) p.defs scope over ts s
reader_steps (suc k) p scope over ts s =
    steps_with
    (λ us n ds. spread_steps p.defs us scope ds (fragment_named p.fragments n) (λ f vs. reader_steps k p (scope_at_spread scope ds f) (Some f.on.name) vs f.selections))
    p.defs scope over ts s

-- ---- plans

-- the plan of an operation: its root is one object type
abbrev pub operation_reader : Project → OperationAt → Reader
operation_reader p o = reader_steps (spreads_in p) p operation_scope (root p.defs o.kind) (name_or (root p.defs o.kind) ∷ []) o.selections

-- the plan of a fragment, whose local variables stand under marked names
abbrev pub fragment_reader : Project → FragmentAt → Reader
fragment_reader p f = reader_steps (spreads_in p) p (scope_of_own f) (Some f.on.name) (possible p.defs f.on.name) f.selections
