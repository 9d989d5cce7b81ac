-- On an object type the steps of nodes say of fields what the schema says.
use Rattle.std.proofs.Common.{◌≡◌, Bool, true, false, true≢false, cond, ◌||◌, ◌++◌, List, [], ◌∷◌, codes, Option, Some, None, bytes_eq, refl, ap, sym, subst, ◌∙◌}
use Rattle.std.specs.List.{AllByRecursion}
use Rattle.plan_ir.specs.gql_plain.Order.{has_text}
use Rattle.plan_ir.specs.Nodes as nodes
use Rattle.plan_ir.specs.Nodes.{Nodes}
use Rattle.plan_ir.specs.Normal.{Normal, done, typename, leaf, object, guarded, normal_append}
use Rattle.plan_ir.specs.declared.expanded.Expanded.{Expanded}
use Rattle.plan_ir.specs.declared.guard.Condition.{Condition}
use Rattle.plan_ir.specs.schema_rules.Checked.{IsSound}
use Rattle.plan_ir.specs.schema_tables.Types.{Text, Defs, base_of, is_composite, possible}
use Rattle.plan_ir.specs.store_model.Items as items
use Rattle.plan_ir.specs.store_model.Items.{Below, Form}
use Rattle.relay_model.specs.Collection.{below_type}
use Rattle.relay_model.specs.plan_collect.Collecting.{applies}
use Rattle.plan_build.proofs.ClassLaws.{Differ, OneLike, form_of, found, objects, one_class}
use Rattle.plan_build.proofs.CovarianceLists.{passes_each}
use Rattle.plan_build.proofs.Meaning.{root_has}
use Rattle.plan_build.proofs.OrderLaws.{differ_one, differ_possible}
use Rattle.plan_build.proofs.PartLaws.{differ_at, types_there}
use Rattle.plan_build.proofs.SoundTypes.{are_sound}
use Rattle.plan_build.proofs.StepLaws.{AreSound, inside_type}
use Rattle.plan_ir.proofs.gql_graph_laws.TextSteps.{same_self}
use Rattle.plan_build.specs.Classes.{Class, Target, classes_of, target_on}
use Rattle.plan_build.specs.Conditions.{conditions_of}
use Rattle.plan_build.specs.NormalTypes.{FitsSchema}
use Rattle.plan_build.specs.Steps.{FieldNode, are_within, behind, class_steps, field_steps, guarded_classes, inline_steps, is_one, leaf_step, object_step, on_steps, plan_of, steps_of, target_step, types_at}
use Rattle.plan_build.specs.Suited.{FieldSuits, IsSuited, Suited, type_inside}

-- ---- what forms say

abbrev is_many : Form → Bool
is_many items.typename = false
is_many items.leaf = false
is_many (items.one b) = false
is_many (items.many b) = true

abbrev is_record : Form → Bool
is_record items.typename = false
is_record items.leaf = false
is_record (items.one b) = true
is_record (items.many b) = true

abbrev nothing_below : Below
nothing_below = record { types = []; identified = []; open_type = false }

abbrev what_below : Form → Below
what_below items.typename = nothing_below
what_below items.leaf = nothing_below
what_below (items.one b) = b
what_below (items.many b) = b

many_objects : (m : Bool) (b : Below) → is_many (objects m b) ≡ m
many_objects true b = refl
many_objects false b = refl

record_objects : (m : Bool) (b : Below) → is_record (objects m b) ≡ true
record_objects true b = refl
record_objects false b = refl

below_objects : (m : Bool) (b : Below) → what_below (objects m b) ≡ b
below_objects true b = refl
below_objects false b = refl

module _ (defs : Defs) (T : Text) where
  -- ---- steps one after another, and behind guards

  fits_append : (a b : Normal) → FitsSchema defs T a → FitsSchema defs T b → FitsSchema defs T (normal_append a b)
  fits_append done b h k = k
  fits_append (typename r rest) b h k = fits_append rest b h k
  fits_append (leaf r n xs rest) b h k = (h.0, fits_append rest b h.1 k)
  fits_append (object r n xs m ts is o c child rest) b h k = (h.0, h.1, fits_append rest b h.2 k)
  fits_append (guarded g child rest) b h k = (h.0, fits_append rest b h.1 k)

  behind_fits : (cs : List Condition) (s : Normal) → FitsSchema defs T s → FitsSchema defs T (behind None cs s)
  behind_fits [] s h = h
  behind_fits (c ∷ cs) s h = (λ e. h, tt)

  either_fits : (b : Bool) (x y : Normal) → (b ≡ true → FitsSchema defs T x) → (b ≡ false → FitsSchema defs T y) → FitsSchema defs T (cond b x y)
  either_fits true x y f g = f refl
  either_fits false x y f g = g refl

  -- ---- classes

  module _ (step : Target → Normal) where
    guarded_fits : (cs : List Class) → AllByRecursion (λ t. FitsSchema defs T (step t)) (found T cs) → FitsSchema defs T (guarded_classes step cs)
    guarded_fits [] h = tt
    guarded_fits (c ∷ cs) h = on (λ k. guarded_fits cs k) (has_text c.types T) h where
      on : (AllByRecursion (λ t. FitsSchema defs T (step t)) (found T cs) → FitsSchema defs T (guarded_classes step cs)) → (b : Bool)
          → AllByRecursion (λ t. FitsSchema defs T (step t)) (cond b (c.target ∷ []) [] ++ found T cs)
          → (b ≡ true → FitsSchema defs T (step c.target)) × FitsSchema defs T (guarded_classes step cs)
      on later true k = (λ e. k.0, later k.1)
      on later false k = (λ e. absurd (true≢false (sym e)), later k)

    class_fits : (cs : List Class) (t : Target) → found T cs ≡ t ∷ [] → FitsSchema defs T (step t) → FitsSchema defs T (class_steps step cs)
    class_fits [] t e h = tt
    class_fits (c ∷ []) t e h = on (has_text c.types T) e where
      on : (b : Bool) → cond b (c.target ∷ []) [] ++ [] ≡ t ∷ [] → FitsSchema defs T (step c.target)
      on true k = let same : c.target ≡ t = cc k in subst (λ (u : Target). FitsSchema defs T (step u)) (sym same) h
      on false k = absurd cc
    class_fits (c ∷ d ∷ cs) t e h = guarded_fits (c ∷ d ∷ cs) (subst (AllByRecursion (λ (u : Target). FitsSchema defs T (step u))) (sym e) (h, tt))

  -- ---- fields

  -- a target of the form that the field has
  target_fits : (f : FieldNode) (child : Normal) (a : Target) → form_of defs a ≡ form_of defs (target_on defs T f.name)
      → ((U : Text) → has_text (possible defs (target_on defs T f.name).base) U ≡ true → FitsSchema defs U child) → FitsSchema defs T (target_step defs f child a)
  target_fits f child a like inside = on (is_composite defs a.base) (is_composite defs b.base) refl like where
    b : Target
    b = target_on defs T f.name

    on : (c d : Bool) → is_composite defs b.base ≡ d → cond c (objects a.many (below_type defs a.base)) items.leaf ≡ cond d (objects b.many (below_type defs b.base)) items.leaf
        → FitsSchema defs T (cond c (object_step defs f a child) (leaf_step f))
    on true true e h =
        let below : below_type defs a.base ≡ below_type defs b.base =
        sym (below_objects a.many (below_type defs a.base)) ∙ ap what_below h ∙ below_objects b.many (below_type defs b.base) in
        let types : possible defs a.base ≡ possible defs b.base = ap (λ (x : Below). x.types) below in (
          record {
            composite = e;
            many = sym (many_objects a.many (below_type defs a.base)) ∙ ap is_many h ∙ many_objects b.many (below_type defs b.base);
            types = types;
            identified = refl;
            open_type = ap (λ (x : Below). x.open_type) below;
          },
          λ U k. inside U (ap (λ (ts : List Text). has_text ts U) (sym types) ∙ k),
          tt,
        )
    on true false e h = absurd (true≢false (sym (record_objects a.many (below_type defs a.base)) ∙ ap is_record h))
    on false true e h = absurd (true≢false (sym (ap is_record h ∙ record_objects b.many (below_type defs b.base))))
    on false false e h = (e, tt)

  field_fits : (ts : List Text) (f : FieldNode) (child : Normal) → Differ ts → has_text ts T ≡ true
      → (bytes_eq f.name (codes "__typename") ≡ false → (U : Text) → has_text (possible defs (target_on defs T f.name).base) U ≡ true → FitsSchema defs U child)
      → FitsSchema defs T (field_steps defs ts f child)
  field_fits ts f child differ here inside =
      either_fits (bytes_eq f.name (codes "__typename")) (typename f.response done) (class_steps (target_step defs f child) (classes_of defs f.name ts))
      (λ e. tt)
      (λ e.
      let one : OneLike defs (target_on defs T f.name) (found T (classes_of defs f.name ts)) = one_class defs f.name T ts differ here in
      class_fits (target_step defs f child) (classes_of defs f.name ts) one.0 one.1 (target_fits f child one.0 one.2 (inside e)))

  -- ---- inline fragments

  inline_fits : (ts : List Text) (o : Option Text) (cs : List Condition) (below : List Text → Normal) → Differ ts → has_text ts T ≡ true
      → ((us : List Text) → Differ us → has_text us T ≡ true → applies defs o T ≡ true → FitsSchema defs T (below us))
      → FitsSchema defs T (inline_steps defs ts o cs below)
  inline_fits ts None cs below differ here go = behind_fits cs (below ts) (go ts differ here refl)
  inline_fits ts (Some o) cs below differ here go =
      let ids : List Text = possible defs o in
      let tested : Normal = behind (Some ids) cs (below ids) in
      either_fits (is_composite defs o) (on_steps defs ts o cs below) done
      (λ e. either_fits (are_within ids ts) (behind None cs (below ts)) (cond (is_one ts) done tested)
      (λ w. behind_fits cs (below ts) (go ts differ here (passes_each (λ X. has_text ids X) ts T w here)))
      (λ w. either_fits (is_one ts) done tested (λ k. tt) (λ k. (λ passes. go ids (differ_possible defs o) passes passes, tt))))
      (λ e. tt)

-- ---- nodes

pub steps_fit : (defs : Defs) → AreSound defs → (T : Text) (ts : List Text) (around t : Text) (s : Nodes) → Differ ts → has_text ts T ≡ true → has_text (possible defs t) T ≡ true
    → Suited defs around t s → FitsSchema defs T (steps_of defs ts s)
steps_fit defs sound T ts around t nodes.end differ here there suited = tt
steps_fit defs sound T ts around t (nodes.field r n xs ds c of s p rest) differ here there suited =
    let f : FieldNode = record { response = r; name = n; arguments = xs; connection = c } in
    let below : Normal = steps_of defs (types_at defs (base_of of)) s in
    let own : Normal = field_steps defs ts f below in
    let field : FieldSuits defs T n xs c of = suited.0 T there in
    fits_append defs T (behind None (conditions_of ds) own) (steps_of defs ts rest)
    (behind_fits defs T (conditions_of ds) own
    (field_fits defs T ts f below differ here
    (λ off U k. steps_fit defs sound U (types_at defs (base_of of)) (base_of of) (base_of of) s (differ_at defs (base_of of))
    (types_there defs sound (base_of of) U (field.within off U k)) (field.within off U k) suited.1)))
    (steps_fit defs sound T ts around t rest differ here there suited.2)
steps_fit defs sound T ts around t (nodes.inline o ds s p rest) differ here there suited =
    fits_append defs T (inline_steps defs ts o (conditions_of ds) (λ us. steps_of defs us s)) (steps_of defs ts rest)
    (inline_fits defs T ts o (conditions_of ds) (λ us. steps_of defs us s) differ here
    (λ us d h it. steps_fit defs sound T us _ (type_inside defs t o) s d h (inside_type defs t o T there it) suited.0))
    (steps_fit defs sound T ts around t rest differ here there suited.1)

pub plan_fits : (defs : Defs) (e : Expanded) → IsSound defs → IsSuited defs e → FitsSchema defs e.root (plan_of defs e)
plan_fits defs e sound suited =
    steps_fit defs (are_sound defs sound) e.root (e.root ∷ []) e.root e.root e.selections (differ_one e.root) (ap (λ (b : Bool). b || false) (same_self e.root))
    (root_has defs sound e.root suited.root) suited.selections
