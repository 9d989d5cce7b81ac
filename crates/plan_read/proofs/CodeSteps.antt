-- Loops: what is done so far, and what is left; and the steps of each selection.
use Rattle.std.proofs.Common.{◌≡◌, ℕ, zero, suc, ◌+◌, ◌-◌, ◌<◌, ◌≤◌, Bool, true, false, true≢false, IsTrue, cond, ◌&&◌, List, [], ◌∷◌, ◌++◌, drop, length, get_or, map, Option, Some, None, option_map, bytes_eq, refl, ap, sym, ◌∙◌, arith}
use Rattle.std.proofs.lemmas.List.{drop_all, drop_more}
use Rattle.std.specs.Prelude.{◌↔◌, codes}
use Rattle.plan_ir.specs.gql_ast.SelectionView.{sel_before, sel_of, sels_of}
use Rattle.plan_ir.specs.gql_ast.Sels as sels
use Rattle.plan_ir.specs.gql_ast.Sels.{Sels}
use Rattle.plan_ir.specs.gql_ast.Ty.{Ty}
use Rattle.plan_ir.specs.gql_ast.Value.{Val}
use Rattle.plan_ir.specs.gql_ast.declared.directive.Directive.{Directive}
use Rattle.plan_ir.specs.gql_ast.declared.selection.Selection.{Selection}
use Rattle.plan_ir.specs.gql_ast.declared.selection.Selection.TheVariants as S
use Rattle.plan_build.specs.Classes.{Class, Target, all_lead_to, classes_of, one_target, same_target, sorted_class, target_on, with_types}
use Rattle.plan_build.specs.ClassView.{class_view}
use Rattle.plan_build.specs.Conditions.{conditions_of}
use Rattle.plan_build.specs.Steps.{FieldNode, are_within, is_one, types_at}
use Rattle.plan_ir.specs.Additions.{type_or}
use Rattle.plan_build.specs.declared.classes.Class as code
use Rattle.plan_ir.proofs.ReaderLaws.{reader_append_assoc, reader_append_done}
use Rattle.plan_ir.specs.Expansion.{name_or, printed_conditions, response_key}
use Rattle.plan_ir.specs.Reader.{Reader, done, guarded, pointer, pointer_inline, reader_append, typename}
use Rattle.plan_ir.specs.Substitution.{Arguments, Scope, substitute_in}
use Rattle.plan_ir.specs.declared.guard.Condition.{Condition}
use Rattle.plan_read.specs.Reading.{Find, Ready, entered_ready, entering, reading, ready_scope, spread_ready}
use Rattle.plan_read.specs.Steps.{behind, class_steps, field_steps, guarded_classes, inline_steps, on_steps, pointer_arguments, pointer_step, steps_with, target_step}
use Rattle.plan_ir.specs.relay_marks.Connections.{connection_among}
use Rattle.plan_build.specs.relay_model.Collection.{is_open}
use Rattle.plan_ir.specs.schema_tables.Types.{Text, Defs, base_of, is_composite, possible}
use Rattle.plan_ir.specs.schema_types.Sites.{below, condition_or, field_type}

-- ---- guards

behind_is : (conditions : List Condition) (child : Reader) (b : Bool) → IsTrue b ↔ (conditions ≡ []) → b ≡ false → guarded (record { types = None; conditions = conditions }) child done ≡ behind None conditions child
behind_is [] child b h e = absurd (true≢false (sym (h.1 refl) ∙ e))
behind_is (c ∷ cs) child b h e = refl

-- steps behind conditions, or without any
pub put_behind : (old new child : Reader) (conditions own : List Condition) (b : Bool) → IsTrue b ↔ (conditions ≡ []) → b ≡ false → conditions ≡ own
    → new ≡ reader_append old (guarded (record { types = None; conditions = conditions }) child done) → new ≡ reader_append old (behind None own child)
put_behind old new child conditions own b h e is put =
    put ∙ ap (reader_append old) (behind_is conditions child b h e) ∙ ap (λ (cs : List Condition). reader_append old (behind None cs child)) is

pub put_bare : (old new child : Reader) (conditions own : List Condition) (b : Bool) → IsTrue b ↔ (conditions ≡ []) → b ≡ true → conditions ≡ own
    → new ≡ reader_append old child → new ≡ reader_append old (behind None own child)
put_bare old new child conditions own b h e is put =
    put ∙ sym (ap (λ (cs : List Condition). reader_append old (behind None cs child)) (h.0 e)) ∙ ap (λ (cs : List Condition). reader_append old (behind None cs child)) is

-- ---- selections

steps_before : (enter : List Text → Text → List Directive → Reader) (defs : Defs) (scope : Scope) (over : Option Text) (ts : List Text) (x : Selection) (t : Sels)
    → steps_with enter defs scope over ts (sel_before x t) ≡ reader_append (steps_with enter defs scope over ts (sel_of x)) (steps_with enter defs scope over ts t)
steps_before enter defs scope over ts (S.Field a n xs ds s) t = ap (λ (r : Reader). reader_append r (steps_with enter defs scope over ts t)) (sym (reader_append_done _))
steps_before enter defs scope over ts (S.Spread n ds) t = ap (λ (r : Reader). reader_append r (steps_with enter defs scope over ts t)) (sym (reader_append_done _))
steps_before enter defs scope over ts (S.Inline o ds s) t = ap (λ (r : Reader). reader_append r (steps_with enter defs scope over ts t)) (sym (reader_append_done _))

pub steps_next : (enter : List Text → Text → List Directive → Reader) (defs : Defs) (scope : Scope) (over : Option Text) (ts : List Text) (xs : List Selection) (i : ℕ) (x : Selection) (old new whole : Reader)
    → i < length xs → x ≡ get_or xs i x → new ≡ reader_append old (steps_with enter defs scope over ts (sel_of x))
    → reader_append old (steps_with enter defs scope over ts (sels_of (drop i xs))) ≡ whole
    → reader_append new (steps_with enter defs scope over ts (sels_of (drop (i + 1) xs))) ≡ whole
steps_next enter defs scope over ts xs i x old new whole h is put w =
    let rest : Sels = sels_of (drop (i + 1) xs) in
    ap (λ (r : Reader). reader_append r (steps_with enter defs scope over ts rest)) put
    ∙ reader_append_assoc old (steps_with enter defs scope over ts (sel_of x)) (steps_with enter defs scope over ts rest)
    ∙ sym (ap (reader_append old) (steps_before enter defs scope over ts x rest))
    ∙ ap (λ (y : Selection). reader_append old (steps_with enter defs scope over ts (sel_before y rest))) is
    ∙ sym (ap (λ (ys : List Selection). reader_append old (steps_with enter defs scope over ts (sels_of ys))) (drop_more xs i x h)) ∙ w

pub steps_end : (enter : List Text → Text → List Directive → Reader) (defs : Defs) (scope : Scope) (over : Option Text) (ts : List Text) (xs : List Selection) (i : ℕ) (old whole : Reader)
    → length xs ≤ i → reader_append old (steps_with enter defs scope over ts (sels_of (drop i xs))) ≡ whole → old ≡ whole
steps_end enter defs scope over ts xs i old whole h w =
    sym (reader_append_done old) ∙ sym (ap (λ (ys : List Selection). reader_append old (steps_with enter defs scope over ts (sels_of ys))) (drop_all i xs h)) ∙ w

-- ---- steps of classes

pub classes_next : (step : Target → Reader) (xs : List code.Class) (i : ℕ) (x : code.Class) (old new whole : Reader) → i < length xs → x ≡ get_or xs i x
    → new ≡ reader_append old (guarded_classes step (class_view x ∷ [])) → reader_append old (guarded_classes step (map class_view (drop i xs))) ≡ whole
    → reader_append new (guarded_classes step (map class_view (drop (i + 1) xs))) ≡ whole
classes_next step xs i x old new whole h is put w =
    let rest : Reader = guarded_classes step (map class_view (drop (i + 1) xs)) in
    ap (λ (r : Reader). reader_append r rest) put
    ∙ reader_append_assoc old (guarded_classes step (class_view x ∷ [])) rest
    ∙ ap (λ (y : code.Class). reader_append old (guarded_classes step (class_view y ∷ map class_view (drop (i + 1) xs)))) is
    ∙ sym (ap (λ (ys : List code.Class). reader_append old (guarded_classes step (map class_view ys))) (drop_more xs i x h)) ∙ w

pub classes_end : (step : Target → Reader) (xs : List code.Class) (i : ℕ) (old whole : Reader) → length xs ≤ i → reader_append old (guarded_classes step (map class_view (drop i xs))) ≡ whole → old ≡ whole
classes_end step xs i old whole h w =
    sym (reader_append_done old) ∙ sym (ap (λ (ys : List code.Class). reader_append old (guarded_classes step (map class_view ys))) (drop_all i xs h)) ∙ w

-- classes that are not one alone
pub many_classes : (step : Target → Reader) (xs : List code.Class) → (length xs ≡ 1 → ⊥) → class_steps step (map class_view xs) ≡ guarded_classes step (map class_view xs)
many_classes step [] h = refl
many_classes step (x ∷ []) h = absurd (h refl)
many_classes step (x ∷ y ∷ xs) h = refl

-- where all types lead to one target there is one class
abbrev LeavesOne : Defs → Text → Target → List Text → List Text → Type 0
LeavesOne defs n t us ts = (vs : List Text) × (with_types defs n (record { target = t; types = us } ∷ []) ts ≡ record { target = t; types = vs } ∷ [])

one_class_left : (defs : Defs) (n : Text) (t : Target) (us ts : List Text) → all_lead_to defs n t ts ≡ true → LeavesOne defs n t us ts
one_class_left defs n t us [] e = (us, refl)
one_class_left defs n t us (T ∷ ts) e = on (same_target defs t (target_on defs T n)) refl e (λ h. one_class_left defs n t (us ++ T ∷ []) ts h) where
  on : (b : Bool) → same_target defs t (target_on defs T n) ≡ b → (b && all_lead_to defs n t ts) ≡ true → (all_lead_to defs n t ts ≡ true → LeavesOne defs n t (us ++ T ∷ []) ts)
      → LeavesOne defs n t us (T ∷ ts)
  on true f h later =
      let rest = later h in
      (rest.0, ap (λ (b : Bool). with_types defs n (cond b (record { target = t; types = us ++ T ∷ [] } ∷ []) (record { target = t; types = us } ∷ record { target = target_on defs T n; types = T ∷ [] } ∷ [])) ts) f ∙ rest.1)
  on false f h later = absurd (true≢false (sym h))

one_target_steps : (defs : Defs) (n : Text) (step : Target → Reader) (ts : List Text) (t : Target) → one_target defs n ts ≡ Some t → class_steps step (classes_of defs n ts) ≡ step t
one_target_steps defs n step [] t e = absurd cc
one_target_steps defs n step (T ∷ ts) t e = on (all_lead_to defs n (target_on defs T n) ts) refl e where
  on : (b : Bool) → all_lead_to defs n (target_on defs T n) ts ≡ b → cond b (Some (target_on defs T n)) None ≡ Some t → class_steps step (classes_of defs n (T ∷ ts)) ≡ step t
  on true f h =
      let one = one_class_left defs n (target_on defs T n) (T ∷ []) ts f in
      let same : target_on defs T n ≡ t = cc h in
      ap (λ (cs : List Class). class_steps step (map sorted_class cs)) one.1 ∙ ap step same
  on false f h = absurd cc

pub put_one_target : (defs : Defs) (ts : List Text) (f : FieldNode) (child : Reader) (old new : Reader) (t : Target) → bytes_eq f.name (codes "__typename") ≡ false
    → one_target defs f.name ts ≡ Some t → new ≡ reader_append old (target_step defs f child t) → new ≡ reader_append old (field_steps defs ts f child)
put_one_target defs ts f child old new t own one put =
    put
    ∙ sym (ap (λ (b : Bool). reader_append old (cond b (typename f.response done) (class_steps (target_step defs f child) (classes_of defs f.name ts)))) own
    ∙ ap (reader_append old) (one_target_steps defs f.name (target_step defs f child) ts t one))

-- ---- what stands below a field

-- the named type of a field, where there is one
pub base_below : (q : Option Ty) → name_or (option_map base_of q) ≡ base_of (type_or q)
base_below None = refl
base_below (Some t) = refl

-- ---- a selection

pub put_field_selection : (enter : List Text → Text → List Directive → Reader) (defs : Defs) (scope : Scope) (over : Option Text) (ts : List Text) (x : Selection)
    (a : Option Text) (n : Text) (xs : List (Text × Val)) (ds : List Directive) (s : Sels) (old new : Reader) → x ≡ S.Field a n xs ds s
    → new ≡ reader_append old (behind None (conditions_of (printed_conditions scope ds))
    (field_steps defs ts (record { response = response_key a n; name = n; arguments = substitute_in scope xs; connection = connection_among ds })
    (steps_with enter defs scope (below defs over n) (types_at defs (base_of (type_or (field_type defs over n)))) s)))
    → new ≡ reader_append old (steps_with enter defs scope over ts (sel_of x))
put_field_selection enter defs scope over ts x a n xs ds s old new is put =
    put ∙ sym (ap (λ (y : Selection). reader_append old (steps_with enter defs scope over ts (sel_of y))) is ∙ ap (reader_append old) (reader_append_done _))

pub put_inline_selection : (enter : List Text → Text → List Directive → Reader) (defs : Defs) (scope : Scope) (over : Option Text) (ts : List Text) (x : Selection)
    (o : Option Text) (ds : List Directive) (s : Sels) (old new : Reader) → x ≡ S.Inline o ds s
    → new ≡ reader_append old (inline_steps defs ts o (conditions_of (printed_conditions scope ds)) (λ us. steps_with enter defs scope (condition_or over o) us s))
    → new ≡ reader_append old (steps_with enter defs scope over ts (sel_of x))
put_inline_selection enter defs scope over ts x o ds s old new is put =
    put ∙ sym (ap (λ (y : Selection). reader_append old (steps_with enter defs scope over ts (sel_of y))) is ∙ ap (reader_append old) (reader_append_done _))

-- ---- what stands behind a type

pub put_no_type : (defs : Defs) (ts : List Text) (o : Text) (cs : List Condition) (below : List Text → Reader) (old : Reader) → is_composite defs o ≡ false
    → old ≡ reader_append old (inline_steps defs ts (Some o) cs below)
put_no_type defs ts o cs below old e = sym (ap (λ (b : Bool). reader_append old (cond b (on_steps defs ts o cs below) done)) e ∙ reader_append_done old)

on_composite : (defs : Defs) (ts : List Text) (o : Text) (cs : List Condition) (below : List Text → Reader) (old : Reader) → is_composite defs o ≡ true
    → reader_append old (inline_steps defs ts (Some o) cs below) ≡ reader_append old (on_steps defs ts o cs below)
on_composite defs ts o cs below old e = ap (λ (b : Bool). reader_append old (cond b (on_steps defs ts o cs below) done)) e

pub put_no_object : (defs : Defs) (ts : List Text) (o : Text) (cs : List Condition) (below : List Text → Reader) (old : Reader) → is_composite defs o ≡ true
    → are_within (possible defs o) ts ≡ false → is_one ts ≡ true → old ≡ reader_append old (inline_steps defs ts (Some o) cs below)
put_no_object defs ts o cs below old composite within one = sym (
    on_composite defs ts o cs below old composite
    ∙ (λ i. reader_append old (cond (within i) (behind None cs (below ts)) (cond (one i) done (behind (Some (possible defs o)) cs (below (possible defs o))))))
    ∙ reader_append_done old)

-- all types around are of the type
pub put_all_within : (defs : Defs) (ts : List Text) (o : Text) (cs : List Condition) (below : List Text → Reader) (old new : Reader) → is_composite defs o ≡ true
    → are_within (possible defs o) ts ≡ true → new ≡ reader_append old (behind None cs (below ts)) → new ≡ reader_append old (inline_steps defs ts (Some o) cs below)
put_all_within defs ts o cs below old new composite within put =
    put
    ∙ sym (on_composite defs ts o cs below old composite
    ∙ ap (λ (b : Bool). reader_append old (cond b (behind None cs (below ts)) (cond (is_one ts) done (behind (Some (possible defs o)) cs (below (possible defs o)))))) within)

-- some may be, behind a guard
pub put_some_within : (defs : Defs) (ts : List Text) (o : Text) (cs : List Condition) (below : List Text → Reader) (old new : Reader) → is_composite defs o ≡ true
    → are_within (possible defs o) ts ≡ false → is_one ts ≡ false → new ≡ reader_append old (behind (Some (possible defs o)) cs (below (possible defs o)))
    → new ≡ reader_append old (inline_steps defs ts (Some o) cs below)
put_some_within defs ts o cs below old new composite within one put =
    put
    ∙ sym (on_composite defs ts o cs below old composite
    ∙ (λ i. reader_append old (cond (within i) (behind None cs (below ts)) (cond (one i) done (behind (Some (possible defs o)) cs (below (possible defs o)))))))

-- ---- spreads

alone : (enter : List Text → Text → List Directive → Reader) (defs : Defs) (scope : Scope) (over : Option Text) (ts : List Text) (n : Text) (ds : List Directive) (old : Reader)
    → reader_append old (enter ts n ds) ≡ reader_append old (steps_with enter defs scope over ts (sels.spread n ds sels.end))
alone enter defs scope over ts n ds old = ap (reader_append old) (sym (reader_append_done (enter ts n ds)))

entering_none : (k : ℕ) (defs : Defs) (find : Find) (scope : Scope) (ts : List Text) (n : Text) (ds : List Directive) → k ≡ 0 → entering k defs find scope ts n ds ≡ done
entering_none zero defs find scope ts n ds e = refl
entering_none (suc k) defs find scope ts n ds e = absurd (omega (arith, e))

entering_missing : (k : ℕ) (defs : Defs) (find : Find) (scope : Scope) (ts : List Text) (n : Text) (ds : List Directive) → find n ≡ None → entering k defs find scope ts n ds ≡ done
entering_missing zero defs find scope ts n ds e = refl
entering_missing (suc k) defs find scope ts n ds e =
    ap (λ (o : Option Ready). spread_ready defs ts scope n ds o (λ r us. reading k defs find (ready_scope scope ds r) (Some r.on) us r.selections)) e

entering_found : (k : ℕ) (defs : Defs) (find : Find) (scope : Scope) (ts : List Text) (n : Text) (ds : List Directive) (r : Ready) → 0 < k → find n ≡ Some r
    → spread_ready defs ts scope n ds (Some r) (λ q us. reading (k - 1) defs find (ready_scope scope ds q) (Some q.on) us q.selections) ≡ entering k defs find scope ts n ds
entering_found zero defs find scope ts n ds r some e = absurd (omega (arith, some))
entering_found (suc k) defs find scope ts n ds r some e =
    let less : suc k - 1 ≡ k = omega arith in
    ap (λ (j : ℕ). spread_ready defs ts scope n ds (Some r) (λ q us. reading j defs find (ready_scope scope ds q) (Some q.on) us q.selections)) less
    ∙ sym (ap (λ (o : Option Ready). spread_ready defs ts scope n ds o (λ q us. reading k defs find (ready_scope scope ds q) (Some q.on) us q.selections)) e)

-- no spread may be entered
pub put_none : (k : ℕ) (defs : Defs) (find : Find) (scope : Scope) (over : Option Text) (ts : List Text) (n : Text) (ds : List Directive) (old : Reader) → k ≡ 0
    → old ≡ reader_append old (reading k defs find scope over ts (sels.spread n ds sels.end))
put_none k defs find scope over ts n ds old e =
    sym (reader_append_done old) ∙ sym (ap (reader_append old) (entering_none k defs find scope ts n ds e)) ∙ alone (entering k defs find scope) defs scope over ts n ds old

-- there is no fragment of that name
pub put_missing : (k : ℕ) (defs : Defs) (find : Find) (scope : Scope) (over : Option Text) (ts : List Text) (n : Text) (ds : List Directive) (old : Reader) → find n ≡ None
    → old ≡ reader_append old (reading k defs find scope over ts (sels.spread n ds sels.end))
put_missing k defs find scope over ts n ds old e =
    sym (reader_append_done old) ∙ sym (ap (reader_append old) (entering_missing k defs find scope ts n ds e)) ∙ alone (entering k defs find scope) defs scope over ts n ds old

-- the fragment is put
pub put_found : (k : ℕ) (defs : Defs) (find : Find) (scope : Scope) (over : Option Text) (ts : List Text) (n : Text) (ds : List Directive) (r : Ready) (old new : Reader) → 0 < k → find n ≡ Some r
    → new ≡ reader_append old (inline_steps defs ts (Some r.on) (conditions_of (printed_conditions scope ds)) (λ us. entered_ready scope n ds r (reading (k - 1) defs find (ready_scope scope ds r) (Some r.on) us r.selections)))
    → new ≡ reader_append old (reading k defs find scope over ts (sels.spread n ds sels.end))
put_found k defs find scope over ts n ds r old new some e put =
    put ∙ ap (reader_append old) (entering_found k defs find scope ts n ds r some e) ∙ alone (entering k defs find scope) defs scope over ts n ds old

-- ---- pointers

-- a spread that is not masked
pub put_open : (scope : Scope) (n : Text) (ds : List Directive) (r : Ready) (inside old new : Reader) → is_open ds ≡ true → new ≡ reader_append old inside
    → new ≡ reader_append old (entered_ready scope n ds r inside)
put_open scope n ds r inside old new mask put =
    put ∙ sym (ap (λ (b : Bool). reader_append old (cond b inside (pointer_step n (pointer_arguments scope ds r.variables) r.inlined inside))) mask)

-- a masked one
pub put_pointer : (scope : Scope) (n : Text) (ds : List Directive) (r : Ready) (inside step old new : Reader) → is_open ds ≡ false
    → step ≡ pointer_step n (pointer_arguments scope ds r.variables) r.inlined inside → new ≡ reader_append old step
    → new ≡ reader_append old (entered_ready scope n ds r inside)
put_pointer scope n ds r inside step old new mask made put =
    put ∙ ap (reader_append old) made
    ∙ sym (ap (λ (b : Bool). reader_append old (cond b inside (pointer_step n (pointer_arguments scope ds r.variables) r.inlined inside))) mask)

-- a pointer without a plan
pub bare_pointer : (m n : Text) (xs ys : Arguments) (b : Bool) (body : Reader) → b ≡ false → m ≡ n → xs ≡ ys → pointer m xs done ≡ pointer_step n ys b body
bare_pointer m n xs ys b body bare name values = (λ i. pointer (name i) (values i) done) ∙ sym (ap (λ (c : Bool). pointer_step n ys c body) bare)

-- a pointer with one
pub planned_pointer : (m n : Text) (xs ys : Arguments) (b : Bool) (made body : Reader) → b ≡ true → m ≡ n → xs ≡ ys → made ≡ body
    → pointer_inline m xs made done ≡ pointer_step n ys b body
planned_pointer m n xs ys b made body planned name values is =
    (λ i. pointer_inline (name i) (values i) (is i) done) ∙ sym (ap (λ (c : Bool). pointer_step n ys c body) planned)
