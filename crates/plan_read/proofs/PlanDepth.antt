-- The steps that come of selections stand at no more records one below another than there are sets in one another.
use Rattle.std.proofs.Common.{ℕ, zero, suc, ◌+◌, ◌≤◌, Bool, true, false, cond, List, [], ◌∷◌, Option, Some, None, max, arith, codes, bytes_eq}
use Rattle.plan_ir.specs.gql_ast.Sels as sels
use Rattle.plan_ir.specs.gql_ast.Sels.{Sels}
use Rattle.plan_ir.specs.gql_ast.declared.directive.Directive.{Directive}
use Rattle.plan_build.specs.Classes.{Class, Target, classes_of}
use Rattle.plan_build.specs.Conditions.{conditions_of}
use Rattle.plan_build.specs.Steps.{FieldNode, are_within, is_one, types_at}
use Rattle.plan_ir.specs.Expansion.{Project, printed_conditions, response_key}
use Rattle.plan_ir.specs.Reader as r
use Rattle.plan_ir.specs.Reader.{Reader, done, reader_append}
use Rattle.plan_ir.specs.ReaderMeaning.{records_below}
use Rattle.plan_ir.specs.Substitution.{Arguments, Scope, scope_at_spread, substitute_in}
use Rattle.plan_ir.specs.declared.guard.Condition.{Condition}
use Rattle.plan_read.specs.Steps.{behind, class_steps, entered_steps, field_steps, guarded_classes, inline_steps, leaf_step, object_step, on_steps, pointer_arguments, pointer_step, reader_steps, spread_steps, steps_with, target_step}
use Rattle.plan_ir.specs.relay_marks.Connections.{connection_among}
use Rattle.plan_ir.specs.relay_marks.Locals.{locals_of}
use Rattle.plan_build.specs.relay_model.Collection.{is_inline, is_open}
use Rattle.plan_build.specs.relay_model.Readings.{depth_inside, depth_of, depth_with}
use Rattle.plan_ir.specs.Additions.{type_or}
use Rattle.plan_ir.specs.schema_tables.Types.{Text, Defs, base_of, is_composite, possible}
use Rattle.plan_ir.specs.schema_types.NameRules.{fragment_named}
use Rattle.plan_ir.specs.schema_types.Sites.{FragmentAt, below, condition_or, field_type}

-- ---- numbers

first_of_both : (a b n : ℕ) → max a b ≤ n → a ≤ n
first_of_both a b n le = omega arith

second_of_both : (a b n : ℕ) → max a b ≤ n → b ≤ n
second_of_both a b n le = omega arith

both : (a b n : ℕ) → a ≤ n → b ≤ n → max a b ≤ n
both a b n first second = omega arith

-- ---- steps behind one another

append_below : (n : ℕ) (s t : Reader) → records_below s ≤ n → records_below t ≤ n → records_below (reader_append s t) ≤ n
append_below n r.done t first second = second
append_below n (r.typename k rest) t first second = append_below n rest t first second
append_below n (r.leaf k name xs rest) t first second = append_below n rest t first second
append_below n (r.object k name xs m ts is o c child rest) t first second =
    both (records_below child + 1) (records_below (reader_append rest t)) n (first_of_both (records_below child + 1) (records_below rest) n first)
    (append_below n rest t (second_of_both (records_below child + 1) (records_below rest) n first) second)
append_below n (r.guarded g child rest) t first second =
    both (records_below child) (records_below (reader_append rest t)) n (first_of_both (records_below child) (records_below rest) n first)
    (append_below n rest t (second_of_both (records_below child) (records_below rest) n first) second)
append_below n (r.pointer f xs rest) t first second = append_below n rest t first second
append_below n (r.pointer_inline f xs child rest) t first second =
    both (records_below child + 1) (records_below (reader_append rest t)) n (first_of_both (records_below child + 1) (records_below rest) n first)
    (append_below n rest t (second_of_both (records_below child + 1) (records_below rest) n first) second)

either_below : (n : ℕ) (b : Bool) (s t : Reader) → records_below s ≤ n → records_below t ≤ n → records_below (cond b s t) ≤ n
either_below n true s t first second = first
either_below n false s t first second = second

-- a guard stands at no record
behind_below : (n : ℕ) (types : Option (List Text)) (cs : List Condition) (child : Reader) → records_below child ≤ n → records_below (behind types cs child) ≤ n
behind_below n None [] child le = le
behind_below n None (c ∷ cs) child le = both (records_below child) 0 n le (omega arith)
behind_below n (Some ts) cs child le = both (records_below child) 0 n le (omega arith)

-- ---- fields

classes_below : (n : ℕ) (step : Target → Reader) → ((t : Target) → records_below (step t) ≤ n) → (cs : List Class) → records_below (guarded_classes step cs) ≤ n
classes_below n step le [] = omega arith
classes_below n step le (c ∷ cs) = both (records_below (step c.target)) (records_below (guarded_classes step cs)) n (le c.target) (classes_below n step le cs)

class_below : (n : ℕ) (step : Target → Reader) → ((t : Target) → records_below (step t) ≤ n) → (cs : List Class) → records_below (class_steps step cs) ≤ n
class_below n step le [] = omega arith
class_below n step le (c ∷ []) = le c.target
class_below n step le (c ∷ d ∷ cs) = classes_below n step le (c ∷ d ∷ cs)

module _ (defs : Defs) (n : ℕ) where
  target_below : (f : FieldNode) (child : Reader) → records_below child + 1 ≤ n → (t : Target) → records_below (target_step defs f child t) ≤ n
  target_below f child le t =
      either_below n (is_composite defs t.base) (object_step defs f t child) (leaf_step f) (both (records_below child + 1) 0 n le (omega arith)) (omega arith)

  field_below : (ts : List Text) (f : FieldNode) (child : Reader) → records_below child + 1 ≤ n → records_below (field_steps defs ts f child) ≤ n
  field_below ts f child le =
      either_below n (bytes_eq f.name (codes "__typename")) (r.typename f.response done) (class_steps (target_step defs f child) (classes_of defs f.name ts)) (omega arith)
      (class_below n (target_step defs f child) (target_below f child le) (classes_of defs f.name ts))

  -- ---- inline fragments and spreads

  on_below : (ts : List Text) (o : Text) (cs : List Condition) (below : List Text → Reader) → ((us : List Text) → records_below (below us) ≤ n) → records_below (on_steps defs ts o cs below) ≤ n
  on_below ts o cs below le =
      either_below n (are_within (possible defs o) ts) (behind None cs (below ts)) (cond (is_one ts) done (behind (Some (possible defs o)) cs (below (possible defs o))))
      (behind_below n None cs (below ts) (le ts))
      (either_below n (is_one ts) done (behind (Some (possible defs o)) cs (below (possible defs o))) (omega arith)
      (behind_below n (Some (possible defs o)) cs (below (possible defs o)) (le (possible defs o))))

  inline_below : (ts : List Text) (o : Option Text) (cs : List Condition) (below : List Text → Reader) → ((us : List Text) → records_below (below us) ≤ n) → records_below (inline_steps defs ts o cs below) ≤ n
  inline_below ts None cs below le = behind_below n None cs (below ts) (le ts)
  inline_below ts (Some o) cs below le = either_below n (is_composite defs o) (on_steps defs ts o cs below) done (on_below ts o cs below le) (omega arith)

  pointer_below : (f : Text) (xs : Arguments) (b : Bool) (body : Reader) → records_below body + 1 ≤ n → records_below (pointer_step f xs b body) ≤ n
  pointer_below f xs false body le = omega arith
  pointer_below f xs true body le = both (records_below body + 1) 0 n le (omega arith)

  entered_below : (scope : Scope) (ds : List Directive) (f : FragmentAt) (inside : Reader) → records_below inside + 1 ≤ n → records_below (entered_steps scope ds f inside) ≤ n
  entered_below scope ds f inside le =
      either_below n (is_open ds) inside (pointer_step f.name.name (pointer_arguments scope ds (locals_of f.directives)) (is_inline f) inside) (omega (arith, le))
      (pointer_below f.name.name (pointer_arguments scope ds (locals_of f.directives)) (is_inline f) inside le)

  spread_below : (ts : List Text) (scope : Scope) (ds : List Directive) (f : FragmentAt) (inside : FragmentAt → List Text → Reader)
      → ((us : List Text) → records_below (inside f us) + 1 ≤ n) → records_below (spread_steps defs ts scope ds (Some f) inside) ≤ n
  spread_below ts scope ds f inside le =
      inline_below ts (Some f.on.name) (conditions_of (printed_conditions scope ds)) (λ us. entered_steps scope ds f (inside f us)) (λ us. entered_below scope ds f (inside f us) (le us))

-- ---- selections

walk_below : (enter : List Text → Text → List Directive → Reader) (deep : Text → ℕ) → ((ts : List Text) (name : Text) (ds : List Directive) → records_below (enter ts name ds) ≤ deep name)
    → (defs : Defs) (scope : Scope) (n : ℕ) (over : Option Text) (ts : List Text) (s : Sels) → depth_with deep s ≤ n → records_below (steps_with enter defs scope over ts s) ≤ n
walk_below enter deep entered defs scope n over ts sels.end le = omega arith
walk_below enter deep entered defs scope n over ts (sels.field a name xs ds s rest) le =
    let f : FieldNode = record { response = response_key a name; name = name; arguments = substitute_in scope xs; connection = connection_among ds } in
    let types : List Text = types_at defs (base_of (type_or (field_type defs over name))) in
    let child : Reader = steps_with enter defs scope (below defs over name) types s in
    let room = first_of_both (depth_with deep s + 1) (depth_with deep rest) n le in
    append_below n (behind None (conditions_of (printed_conditions scope ds)) (field_steps defs ts f child)) (steps_with enter defs scope over ts rest)
    (behind_below n None (conditions_of (printed_conditions scope ds)) (field_steps defs ts f child)
    (field_below defs n ts f child (more (depth_with deep s) n child room (walk_below enter deep entered defs scope (depth_with deep s) (below defs over name) types s (omega arith)))))
    (walk_below enter deep entered defs scope n over ts rest (second_of_both (depth_with deep s + 1) (depth_with deep rest) n le))
  where
    more : (d n : ℕ) (s : Reader) → d + 1 ≤ n → records_below s ≤ d → records_below s + 1 ≤ n
    more d n s room le = omega (arith, room, le)
walk_below enter deep entered defs scope n over ts (sels.spread name ds rest) le =
    append_below n (enter ts name ds) (steps_with enter defs scope over ts rest)
    (at_most (records_below (enter ts name ds)) (deep name) n (entered ts name ds) (first_of_both (deep name) (depth_with deep rest) n le))
    (walk_below enter deep entered defs scope n over ts rest (second_of_both (deep name) (depth_with deep rest) n le))
  where
    at_most : (a b n : ℕ) → a ≤ b → b ≤ n → a ≤ n
    at_most a b n first second = omega arith
walk_below enter deep entered defs scope n over ts (sels.inline o ds s rest) le =
    append_below n (inline_steps defs ts o (conditions_of (printed_conditions scope ds)) (λ us. steps_with enter defs scope (condition_or over o) us s)) (steps_with enter defs scope over ts rest)
    (inline_below defs n ts o (conditions_of (printed_conditions scope ds)) (λ us. steps_with enter defs scope (condition_or over o) us s)
    (λ us. walk_below enter deep entered defs scope n (condition_or over o) us s (first_of_both (depth_with deep s) (depth_with deep rest) n le)))
    (walk_below enter deep entered defs scope n over ts rest (second_of_both (depth_with deep s) (depth_with deep rest) n le))

-- a spread of a fragment, where its steps stand at few enough records
entered_of : (defs : Defs) (scope : Scope) (ds : List Directive) (ts : List Text) (deep : FragmentAt → ℕ) (inside : FragmentAt → List Text → Reader)
    → ((f : FragmentAt) (us : List Text) → records_below (inside f us) + 1 ≤ deep f) → (f : Option FragmentAt) → records_below (spread_steps defs ts scope ds f inside) ≤ depth_inside deep f
entered_of defs scope ds ts deep inside le None = omega arith
entered_of defs scope ds ts deep inside le (Some f) = spread_below defs (deep f) ts scope ds f inside (le f)

pub plan_deep : (k : ℕ) (p : Project) (scope : Scope) (over : Option Text) (ts : List Text) (s : Sels) → records_below (reader_steps k p scope over ts s) ≤ depth_of k p s
plan_deep zero p scope over ts s = walk_below (λ us n ds. done) (λ n. 0) (λ us n ds. omega arith) p.defs scope (depth_of zero p s) over ts s (omega arith)
plan_deep (suc k) p scope over ts s =
    walk_below
    (λ us n ds. spread_steps p.defs us scope ds (fragment_named p.fragments n) (λ f vs. reader_steps k p (scope_at_spread scope ds f) (Some f.on.name) vs f.selections))
    (λ n. depth_inside (λ f. depth_of k p f.selections + 1) (fragment_named p.fragments n))
    (λ us n ds. entered_of p.defs scope ds us (λ f. depth_of k p f.selections + 1) (λ f vs. reader_steps k p (scope_at_spread scope ds f) (Some f.on.name) vs f.selections)
    (λ f vs. one_more (records_below (reader_steps k p (scope_at_spread scope ds f) (Some f.on.name) vs f.selections)) (depth_of k p f.selections) (plan_deep k p (scope_at_spread scope ds f) (Some f.on.name) vs f.selections))
    (fragment_named p.fragments n))
    p.defs scope (depth_of (suc k) p s) over ts s (omega arith)
  where
    one_more : (a b : ℕ) → a ≤ b → a + 1 ≤ b + 1
    one_more a b le = omega arith
