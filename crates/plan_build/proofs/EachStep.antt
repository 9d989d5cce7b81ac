-- What holds of each step that comes of a field holds of all steps that come of nodes.
use Rattle.std.proofs.Common.{◌≡◌, Bool, true, false, true≢false, cond, List, [], ◌∷◌, ◌++◌, map, Option, Some, None, bytes_eq, refl, ap, sym, subst, ◌∙◌}
use Rattle.std.proofs.lemmas.Bool.{or_left, or_right}
use Rattle.std.specs.List.{AllByRecursion}
use Rattle.std.specs.Prelude.{codes}
use Rattle.plan_ir.specs.gql_ast.Ty.{Ty}
use Rattle.plan_ir.specs.gql_ast.Value.{Val}
use Rattle.plan_ir.specs.gql_ast.declared.directive.Directive.{Directive}
use Rattle.plan_ir.specs.gql_ast.declared.place.FilePlace.{FilePlace}
use Rattle.plan_ir.proofs.gql_graph_laws.TextSteps.{either_of, same_self, same_text}
use Rattle.plan_ir.proofs.gql_plain_laws.SortedTexts.{has_text-sorted_texts}
use Rattle.plan_ir.specs.gql_plain.Order.{has_text}
use Rattle.plan_ir.specs.gql_plain.declared.ids.Conn.{Conn}
use Rattle.plan_ir.specs.Nodes as nodes
use Rattle.plan_ir.specs.Nodes.{Nodes}
use Rattle.plan_ir.specs.Normal.{Normal, done, typename, guarded, normal_append}
use Rattle.plan_ir.specs.declared.guard.Condition.{Condition}
use Rattle.plan_ir.specs.schema_tables.Types.{Text, Defs, base_of, is_composite, possible}
use Rattle.plan_build.proofs.ClassLaws.{has_push}
use Rattle.plan_build.specs.Classes.{Class, Target, classes_of, same_target, sorted_class, target_on, with_object, with_type, with_types}
use Rattle.plan_build.specs.Conditions.{conditions_of}
use Rattle.plan_build.specs.Steps.{FieldNode, are_within, behind, class_steps, field_steps, guarded_classes, inline_steps, is_one, on_steps, steps_of, target_step, types_at}

-- ---- the classes of a field

-- a class of some of these types, with what the field leads to on one of them
pub record IsClassOf (defs : Defs) (n : Text) (ts : List Text) (c : Class) : Type 0 where
  pub at : Text
  pub here : has_text ts at ≡ true
  pub leads : c.target ≡ target_on defs at n
  pub within : (T : Text) → has_text c.types T ≡ true → has_text ts T ≡ true

module _ (defs : Defs) (n : Text) (ts : List Text) where
  alone_within : (T U : Text) → has_text ts T ≡ true → has_text (T ∷ []) U ≡ true → has_text ts U ≡ true
  alone_within T U h e = either_of (bytes_eq T U) false e
      (λ g. subst (λ (X : Text). has_text ts X ≡ true) (same_text T U g) h)
      (λ g. absurd (true≢false (sym g)))

  pushed_within : (xs : List Text) (T U : Text) → has_text ts T ≡ true → (has_text xs U ≡ true → has_text ts U ≡ true) → has_text (xs ++ T ∷ []) U ≡ true → has_text ts U ≡ true
  pushed_within xs T U h k e = either_of (has_text xs U) (bytes_eq T U) (sym (has_push xs T U) ∙ e)
      k
      (λ g. subst (λ (X : Text). has_text ts X ≡ true) (same_text T U g) h)

  type_put : (cs : List Class) (T : Text) → has_text ts T ≡ true → AllByRecursion (IsClassOf defs n ts) cs → AllByRecursion (IsClassOf defs n ts) (with_type defs cs (target_on defs T n) T)
  type_put [] T h k = (record { at = T; here = h; leads = refl; within = λ U e. alone_within T U h e }, tt)
  type_put (c ∷ cs) T h k = on (type_put cs T h k.1) (same_target defs c.target (target_on defs T n)) where
    on : AllByRecursion (IsClassOf defs n ts) (with_type defs cs (target_on defs T n) T) → (b : Bool)
        → AllByRecursion (IsClassOf defs n ts) (cond b (with_object c T ∷ cs) (c ∷ with_type defs cs (target_on defs T n) T))
    on rest true = (record { at = k.0.at; here = k.0.here; leads = k.0.leads; within = λ U e. pushed_within c.types T U h (k.0.within U) e }, k.1)
    on rest false = (k.0, rest)

  types_put : (Ts : List Text) (cs : List Class) → ((T : Text) → has_text Ts T ≡ true → has_text ts T ≡ true) → AllByRecursion (IsClassOf defs n ts) cs
      → AllByRecursion (IsClassOf defs n ts) (with_types defs n cs Ts)
  types_put [] cs w k = k
  types_put (T ∷ Ts) cs w k =
      types_put Ts (with_type defs cs (target_on defs T n) T) (λ U e. w U (or_right (bytes_eq T U) (has_text Ts U) e))
      (type_put cs T (w T (or_left (bytes_eq T T) (has_text Ts T) (same_self T))) k)

  all_sorted : (cs : List Class) → AllByRecursion (IsClassOf defs n ts) cs → AllByRecursion (IsClassOf defs n ts) (map sorted_class cs)
  all_sorted [] k = tt
  all_sorted (c ∷ cs) k =
      (record { at = k.0.at; here = k.0.here; leads = k.0.leads; within = λ U e. k.0.within U (sym (has_text-sorted_texts c.types U) ∙ e) }, all_sorted cs k.1)

  pub each_class : AllByRecursion (IsClassOf defs n ts) (classes_of defs n ts)
  each_class = all_sorted (with_types defs n [] ts) (types_put ts [] (λ T e. e) tt)

-- ---- what is asked of a test of plans, where `At` holds of the types around nodes and of these

pub record EachStep (defs : Defs) (At : List Text → Nodes → Type 0) (holds : Normal → Bool) : Type 0 where
  -- steps one after another, and behind guards: of conditions, of some of the types around, of a type
  pub nothing : holds done ≡ true
  pub joined : (a b : Normal) → holds a ≡ true → holds b ≡ true → holds (normal_append a b) ≡ true
  pub conditional : (cs : List Condition) (s : Normal) → holds s ≡ true → holds (guarded (record { types = None; conditions = cs }) s done) ≡ true
  pub tested : (ts : List Text) (s : Nodes) → At ts s → (us : List Text) → ((T : Text) → has_text us T ≡ true → has_text ts T ≡ true) → (inside : Normal) → holds inside ≡ true
      → holds (guarded (record { types = Some us; conditions = [] }) inside done) ≡ true
  pub tested_on : (o : Text) (cs : List Condition) (s : Normal) → holds s ≡ true → holds (guarded (record { types = Some (possible defs o); conditions = cs }) s done) ≡ true
  -- a step
  pub named : (r : Text) → holds (typename r done) ≡ true
  pub step : (ts : List Text) (r n : Text) (xs : List (Text × Val)) (ds : List Directive) (c : Option Conn) (of : Ty) (s : Nodes) (p : FilePlace) (rest : Nodes)
      → At ts (nodes.field r n xs ds c of s p rest) → (T : Text) → has_text ts T ≡ true → bytes_eq n (codes "__typename") ≡ false
      → holds (steps_of defs (types_at defs (base_of of)) s) ≡ true
      → holds (target_step defs (record { response = r; name = n; arguments = xs; connection = c }) (steps_of defs (types_at defs (base_of of)) s) (target_on defs T n)) ≡ true
  -- nodes below a field and behind it, inside an inline fragment and behind it
  pub below : (ts : List Text) (r n : Text) (xs : List (Text × Val)) (ds : List Directive) (c : Option Conn) (of : Ty) (s : Nodes) (p : FilePlace) (rest : Nodes)
      → At ts (nodes.field r n xs ds c of s p rest) → At (types_at defs (base_of of)) s
  pub next : (ts : List Text) (r n : Text) (xs : List (Text × Val)) (ds : List Directive) (c : Option Conn) (of : Ty) (s : Nodes) (p : FilePlace) (rest : Nodes)
      → At ts (nodes.field r n xs ds c of s p rest) → At ts rest
  pub same : (ts : List Text) (ds : List Directive) (s : Nodes) (p : FilePlace) (rest : Nodes) → At ts (nodes.inline None ds s p rest) → At ts s
  pub narrow : (ts : List Text) (o : Text) (ds : List Directive) (s : Nodes) (p : FilePlace) (rest : Nodes) → At ts (nodes.inline (Some o) ds s p rest)
      → are_within (possible defs o) ts ≡ true → At ts s
  pub wide : (ts : List Text) (o : Text) (ds : List Directive) (s : Nodes) (p : FilePlace) (rest : Nodes) → At ts (nodes.inline (Some o) ds s p rest)
      → are_within (possible defs o) ts ≡ false → At (possible defs o) s
  pub after : (ts : List Text) (o : Option Text) (ds : List Directive) (s : Nodes) (p : FilePlace) (rest : Nodes) → At ts (nodes.inline o ds s p rest) → At ts rest

module _ (defs : Defs) (At : List Text → Nodes → Type 0) (holds : Normal → Bool) (each : EachStep defs At holds) where
  behind_holds : (cs : List Condition) (s : Normal) → holds s ≡ true → holds (behind None cs s) ≡ true
  behind_holds [] s h = h
  behind_holds (c ∷ cs) s h = each.conditional (c ∷ cs) s h

  either_holds : (b : Bool) (x y : Normal) → (b ≡ true → holds x ≡ true) → (b ≡ false → holds y ≡ true) → holds (cond b x y) ≡ true
  either_holds true x y f g = f refl
  either_holds false x y f g = g refl

  -- ---- fields

  module _ (ts : List Text) (s : Nodes) (around : At ts s) (n : Text) (step : Target → Normal) (on : (T : Text) → has_text ts T ≡ true → holds (step (target_on defs T n)) ≡ true) where
    one_holds : (c : Class) → IsClassOf defs n ts c → holds (step c.target) ≡ true
    one_holds c k = ap (λ (t : Target). holds (step t)) k.leads ∙ on k.at k.here

    guarded_hold : (cs : List Class) → AllByRecursion (IsClassOf defs n ts) cs → holds (guarded_classes step cs) ≡ true
    guarded_hold [] k = each.nothing
    guarded_hold (c ∷ cs) k =
        each.joined (guarded (record { types = Some c.types; conditions = [] }) (step c.target) done) (guarded_classes step cs)
        (each.tested ts s around c.types k.0.within (step c.target) (one_holds c k.0)) (guarded_hold cs k.1)

    classes_hold : (cs : List Class) → AllByRecursion (IsClassOf defs n ts) cs → holds (class_steps step cs) ≡ true
    classes_hold [] k = each.nothing
    classes_hold (c ∷ []) k = one_holds c k.0
    classes_hold (c ∷ d ∷ cs) k = guarded_hold (c ∷ d ∷ cs) k

  field_holds : (ts : List Text) (r n : Text) (xs : List (Text × Val)) (ds : List Directive) (c : Option Conn) (of : Ty) (s : Nodes) (p : FilePlace) (rest : Nodes)
      → At ts (nodes.field r n xs ds c of s p rest) → holds (steps_of defs (types_at defs (base_of of)) s) ≡ true
      → holds (field_steps defs ts (record { response = r; name = n; arguments = xs; connection = c }) (steps_of defs (types_at defs (base_of of)) s)) ≡ true
  field_holds ts r n xs ds c of s p rest around h =
      let f : FieldNode = record { response = r; name = n; arguments = xs; connection = c } in
      let below : Normal = steps_of defs (types_at defs (base_of of)) s in
      either_holds (bytes_eq n (codes "__typename")) (typename r done) (class_steps (target_step defs f below) (classes_of defs n ts))
      (λ e. each.named r)
      (λ e. classes_hold ts (nodes.field r n xs ds c of s p rest) around n (target_step defs f below) (λ T here. each.step ts r n xs ds c of s p rest around T here e h)
      (classes_of defs n ts) (each_class defs n ts))

  -- ---- inline fragments

  inline_holds : (ts : List Text) (o : Option Text) (ds : List Directive) (s : Nodes) (p : FilePlace) (rest : Nodes) → At ts (nodes.inline o ds s p rest)
      → ((us : List Text) → At us s → holds (steps_of defs us s) ≡ true) → holds (inline_steps defs ts o (conditions_of ds) (λ us. steps_of defs us s)) ≡ true
  inline_holds ts None ds s p rest around go = behind_holds (conditions_of ds) (steps_of defs ts s) (go ts (each.same ts ds s p rest around))
  inline_holds ts (Some o) ds s p rest around go =
      let cs : List Condition = conditions_of ds in
      let ids : List Text = possible defs o in
      let tested : Normal = behind (Some ids) cs (steps_of defs ids s) in
      either_holds (is_composite defs o) (on_steps defs ts o cs (λ us. steps_of defs us s)) done
      (λ e. either_holds (are_within ids ts) (behind None cs (steps_of defs ts s)) (cond (is_one ts) done tested)
      (λ w. behind_holds cs (steps_of defs ts s) (go ts (each.narrow ts o ds s p rest around w)))
      (λ w. either_holds (is_one ts) done tested (λ k. each.nothing)
      (λ k. each.tested_on o cs (steps_of defs ids s) (go ids (each.wide ts o ds s p rest around w)))))
      (λ e. each.nothing)

  -- ---- nodes

  pub steps_hold : (ts : List Text) (s : Nodes) → At ts s → holds (steps_of defs ts s) ≡ true
  steps_hold ts nodes.end around = each.nothing
  steps_hold ts (nodes.field r n xs ds c of s p rest) around =
      let f : FieldNode = record { response = r; name = n; arguments = xs; connection = c } in
      let own : Normal = field_steps defs ts f (steps_of defs (types_at defs (base_of of)) s) in
      each.joined (behind None (conditions_of ds) own) (steps_of defs ts rest)
      (behind_holds (conditions_of ds) own
      (field_holds ts r n xs ds c of s p rest around (steps_hold (types_at defs (base_of of)) s (each.below ts r n xs ds c of s p rest around))))
      (steps_hold ts rest (each.next ts r n xs ds c of s p rest around))
  steps_hold ts (nodes.inline o ds s p rest) around =
      each.joined (inline_steps defs ts o (conditions_of ds) (λ us. steps_of defs us s)) (steps_of defs ts rest)
      (inline_holds ts o ds s p rest around (λ us a. steps_hold us s a)) (steps_hold ts rest (each.after ts o ds s p rest around))
