-- On an object type the steps of nodes give what the nodes give.
use Rattle.std.proofs.Common.{◌≡◌, Bool, true, false, true≢false, cond, not, ◌&&◌, ◌||◌, List, [], ◌∷◌, ◌++◌, map, Option, Some, None, bytes_eq, refl, ap, sym, ◌∙◌, append_assoc}
use Rattle.std.proofs.lemmas.List.{append-nil}
use Rattle.std.specs.List.{list_all}
use Rattle.std.specs.Prelude.{codes, option_map}
use Rattle.plan_ir.specs.gql_ast.Ty.{Ty}
use Rattle.plan_ir.specs.gql_ast.Value.{Val}
use Rattle.plan_ir.specs.gql_ast.declared.directive.Directive.{Directive}
use Rattle.plan_ir.proofs.gql_graph_laws.TextSteps.{same_text}
use Rattle.plan_ir.specs.gql_graph.Rules.{each}
use Rattle.plan_ir.specs.gql_plain.Order.{has_text}
use Rattle.plan_ir.specs.gql_plain.declared.ids.Conn.{Conn}
use Rattle.plan_ir.specs.Nodes as nodes
use Rattle.plan_ir.specs.Nodes.{Nodes}
use Rattle.plan_ir.specs.Normal.{Normal, done, typename, leaf, object, guarded, normal_append}
use Rattle.plan_ir.specs.NormalMeaning.{Plan, ask_step, below_step, collect_steps, condition_passes, guard_passes, item_of, object_form, typename_ask}
use Rattle.plan_ir.specs.declared.guard.Condition.{Condition}
use Rattle.relay_model.specs.plan_collect.Collecting.{applies, is_left_out}
use Rattle.relay_model.specs.Collection.{below_type, connection_asked, form_on}
use Rattle.plan_ir.specs.schema_rules.Rules.{is_object}
use Rattle.plan_ir.specs.schema_tables.Types.{Text, Defs, base_of, is_composite, possible}
use Rattle.plan_ir.specs.schema_types.Environments.{Values, arguments_in_environment}
use Rattle.plan_ir.specs.store_model.Items as items
use Rattle.plan_ir.specs.store_model.Items.{Asked, Below, Form, Item, asked}
use Rattle.plan_build.proofs.ClassLaws.{Differ, OneLike, form_of, found, objects, one_class}
use Rattle.plan_build.proofs.ConditionLaws.{conditions_pass}
use Rattle.plan_build.proofs.OrderLaws.{differ_possible}
use Rattle.plan_build.proofs.Parts.{child, gather_in, mapped, mapped_if, plan_below, step_item}
use Rattle.plan_build.specs.Classes.{Class, Target, classes_of, target_on}
use Rattle.plan_build.specs.Conditions.{conditions_of}
use Rattle.plan_build.specs.NodesMeaning.{ask_of_node}
use Rattle.plan_build.specs.Steps.{FieldNode, are_within, behind, class_steps, field_steps, guarded_classes, inline_steps, is_one, on_steps, steps_of, target_step, types_at}
use Rattle.plan_build.specs.Suited.{FieldSuits, Suited, type_inside}

-- what holds of the types of a sound schema: an object type is alone, and a type that is no composite one may be no object type
pub record AreSound (defs : Defs) : Type 0 where
  pub alone : (o T : Text) → is_object defs o ≡ true → has_text (possible defs o) T ≡ true → T ≡ o
  pub nothing : (o T : Text) → is_composite defs o ≡ false → has_text (possible defs o) T ≡ false

-- ---- steps behind one another, and behind guards

pub items_append : (env : Values) (T : Text) (a b : Normal) → collect_steps env T (normal_append a b) ≡ collect_steps env T a ++ collect_steps env T b
items_append env T done b = refl
items_append env T (typename r rest) b = λ i. item_of (typename_ask r) env done ∷ items_append env T rest b i
items_append env T (leaf r n xs rest) b = λ i. item_of (ask_step env r n xs None items.leaf) env done ∷ items_append env T rest b i
items_append env T (object r n xs m ts is o c child rest) b =
    λ i. item_of (ask_step env r n xs c (object_form m (below_step ts is o))) env child ∷ items_append env T rest b i
items_append env T (guarded g child rest) b =
    (λ i. cond (guard_passes env T g) (collect_steps env T child) [] ++ items_append env T rest b i)
    ∙ sym (append_assoc (cond (guard_passes env T g) (collect_steps env T child) []) (collect_steps env T rest) (collect_steps env T b))

behind_items : (env : Values) (T : Text) (cs : List Condition) (s : Normal) → collect_steps env T (behind None cs s) ≡ cond (list_all (condition_passes env) cs) (collect_steps env T s) []
behind_items env T [] s = refl
behind_items env T (c ∷ cs) s = append-nil _

pub either : {X : Type 0} (b : Bool) (xs : List X) → cond (not b) xs [] ≡ cond b [] xs
either true xs = refl
either false xs = refl

pub conditional_items : (env : Values) (T : Text) (ds : List Directive) (s : Normal) → collect_steps env T (behind None (conditions_of ds) s) ≡ cond (is_left_out env ds) [] (collect_steps env T s)
conditional_items env T ds s =
    behind_items env T (conditions_of ds) s ∙ ap (λ (b : Bool). cond b (collect_steps env T s) []) (conditions_pass env ds) ∙ either (is_left_out env ds) (collect_steps env T s)

-- ---- classes

module _ (env : Values) (T : Text) (step : Target → Normal) where
  guarded_items : (cs : List Class) → collect_steps env T (guarded_classes step cs) ≡ each (λ t. collect_steps env T (step t)) (found T cs)
  guarded_items [] = refl
  guarded_items (c ∷ cs) = on (guarded_items cs) (has_text c.types T) where
    on : collect_steps env T (guarded_classes step cs) ≡ each (λ t. collect_steps env T (step t)) (found T cs) → (b : Bool)
        → cond (b && true) (collect_steps env T (step c.target)) [] ++ collect_steps env T (guarded_classes step cs)
        ≡ each (λ t. collect_steps env T (step t)) (cond b (c.target ∷ []) [] ++ found T cs)
    on rest true = ap (λ (xs : List (Item Plan)). collect_steps env T (step c.target) ++ xs) rest
    on rest false = rest

  one_item : (cs : List Class) (t : Target) → found T cs ≡ t ∷ [] → collect_steps env T (guarded_classes step cs) ≡ collect_steps env T (step t)
  one_item cs t e = guarded_items cs ∙ ap (each (λ (u : Target). collect_steps env T (step u))) e ∙ append-nil (collect_steps env T (step t))

  pub class_items : (cs : List Class) (t : Target) → found T cs ≡ t ∷ [] → collect_steps env T (class_steps step cs) ≡ collect_steps env T (step t)
  class_items [] t e = one_item [] t e
  class_items (c ∷ []) t e = on (has_text c.types T) e where
    on : (b : Bool) → cond b (c.target ∷ []) [] ++ [] ≡ t ∷ [] → collect_steps env T (step c.target) ≡ collect_steps env T (step t)
    on true h = let same : c.target ≡ t = cc h in ap (λ (u : Target). collect_steps env T (step u)) same
    on false h = cc
  class_items (c ∷ d ∷ cs) t e = one_item (c ∷ d ∷ cs) t e

-- ---- fields

-- a field of this form, with the plan that stands below it
abbrev field_item : Defs → Text → Values → (r n : Text) → List (Text × Val) → Option Conn → Ty → Nodes → Form → Item Plan
field_item defs T env r n xs c of s form = asked (record {
  ask = record { response = r; name = n; arguments = arguments_in_environment env xs; connection = option_map connection_asked c; form = form };
  part = plan_below defs form (child defs env of s);
})

target_items : (defs : Defs) (T : Text) (env : Values) (r n : Text) (xs : List (Text × Val)) (c : Option Conn) (of : Ty) (s : Nodes) (t : Target) → (form_of defs t ≡ items.leaf → c ≡ None)
    → collect_steps env T (target_step defs (record { response = r; name = n; arguments = xs; connection = c }) (steps_of defs (types_at defs (base_of of)) s) t)
    ≡ field_item defs T env r n xs c of s (form_of defs t) ∷ []
target_items defs T env r n xs c of s t plain = on (is_composite defs t.base) t.many plain where
  on : (b m : Bool) → (cond b (objects m (below_type defs t.base)) items.leaf ≡ items.leaf → c ≡ None)
      → collect_steps env T (cond b (object r n xs m (possible defs t.base) (below_type defs t.base).identified (below_type defs t.base).open_type c (steps_of defs (types_at defs (base_of of)) s) done) (leaf r n xs done))
      ≡ field_item defs T env r n xs c of s (cond b (objects m (below_type defs t.base)) items.leaf) ∷ []
  on true true h = refl
  on true false h = refl
  on false m h = λ i. asked (record {
    ask = record { response = r; name = n; arguments = arguments_in_environment env xs; connection = option_map connection_asked (sym (h refl) i); form = items.leaf };
    part = record { environment = env; steps = done };
  }) ∷ []

field_items : (defs : Defs) (T : Text) (env : Values) (ts : List Text) (r n : Text) (xs : List (Text × Val)) (c : Option Conn) (of : Ty) (s : Nodes)
    → Differ ts → has_text ts T ≡ true → FieldSuits defs T n xs c of
    → collect_steps env T (field_steps defs ts (record { response = r; name = n; arguments = xs; connection = c }) (steps_of defs (types_at defs (base_of of)) s))
    ≡ field_item defs T env r n xs c of s (form_on defs T n) ∷ []
field_items defs T env ts r n xs c of s differ here suits = on (bytes_eq n (codes "__typename")) refl where
  f : FieldNode
  f = record { response = r; name = n; arguments = xs; connection = c }

  below : Normal
  below = steps_of defs (types_at defs (base_of of)) s

  on : (b : Bool) → bytes_eq n (codes "__typename") ≡ b
      → collect_steps env T (cond b (typename r done) (class_steps (target_step defs f below) (classes_of defs n ts))) ≡ field_item defs T env r n xs c of s (form_on defs T n) ∷ []
  on true e =
      let name : n ≡ codes "__typename" = same_text n (codes "__typename") e in
      let form : items.typename ≡ form_on defs T n = sym (ap (λ (b : Bool). cond b items.typename (form_of defs (target_on defs T n))) e) in
      λ i. asked (record {
        ask = record {
          response = r;
          name = sym name i;
          arguments = arguments_in_environment env (sym (suits.bare name) i);
          connection = option_map connection_asked (sym (suits.plain name) i);
          form = form i;
        };
        part = plan_below defs (form i) (child defs env of s);
      }) ∷ []
  on false e =
      let one : OneLike defs (target_on defs T n) (found T (classes_of defs n ts)) = one_class defs n T ts differ here in
      let form : form_of defs one.0 ≡ form_on defs T n = one.2 ∙ sym (ap (λ (b : Bool). cond b items.typename (form_of defs (target_on defs T n))) e) in
      class_items env T (target_step defs f below) (classes_of defs n ts) one.0 one.1
      ∙ target_items defs T env r n xs c of s one.0 (λ h. suits.leaf_is_plain (sym form ∙ h))
      ∙ ap (λ (g : Form). field_item defs T env r n xs c of s g ∷ []) form

-- ---- inline fragments

pub all_has : (p : Text → Bool) (ts : List Text) (T : Text) → list_all p ts ≡ true → has_text ts T ≡ true → p T ≡ true
all_has p [] T all has = absurd (true≢false (sym has))
all_has p (X ∷ ts) T all has = on (λ a h. all_has p ts T a h) (bytes_eq X T) refl has (p X) refl all where
  on : (list_all p ts ≡ true → has_text ts T ≡ true → p T ≡ true) → (b : Bool) → bytes_eq X T ≡ b → (b || has_text ts T) ≡ true → (c : Bool) → p X ≡ c → (c && list_all p ts) ≡ true → p T ≡ true
  on later b e h false q a = absurd (true≢false (sym a))
  on later true e h true q a = ap p (sym (same_text X T e)) ∙ q
  on later false e h true q a = later a h

pub one_has : (p : Text → Bool) (ts : List Text) (T : Text) → is_one ts ≡ true → has_text ts T ≡ true → list_all p ts ≡ false → p T ≡ false
one_has p [] T one has all = absurd (true≢false (sym one))
one_has p (X ∷ Y ∷ ts) T one has all = absurd (true≢false (sym one))
one_has p (X ∷ []) T one has all = on (bytes_eq X T) refl has (p X) refl all where
  on : (b : Bool) → bytes_eq X T ≡ b → (b || false) ≡ true → (c : Bool) → p X ≡ c → (c && true) ≡ false → p T ≡ false
  on true e h false q a = ap p (sym (same_text X T e)) ∙ q
  on true e h true q a = absurd (true≢false a)
  on false e h c q a = absurd (true≢false (sym h))

-- a type that is possible around a fragment and is of its type is possible inside
inside_has : (defs : Defs) (t o T : Text) → has_text (possible defs t) T ≡ true → has_text (possible defs o) T ≡ true → has_text (possible defs (type_inside defs t (Some o))) T ≡ true
inside_has defs t o T here there = on (list_all (λ X. has_text (possible defs o) X) (possible defs t)) where
  on : (b : Bool) → has_text (possible defs (cond b t o)) T ≡ true
  on true = here
  on false = there

pub nothing_left : {X : Type 0} (b : Bool) → cond {A = List X} b [] [] ≡ []
nothing_left true = refl
nothing_left false = refl

module _ (defs : Defs) (sound : AreSound defs) (T : Text) (env : Values) (ts : List Text) (differ : Differ ts) (here : has_text ts T ≡ true) (below : List Text → Normal) (xs : List (Item Plan)) where
  -- the fragment is on a composite type
  on_items : (o : Text) (ds : List Directive) → (has_text (possible defs o) T ≡ true → (us : List Text) → Differ us → has_text us T ≡ true → collect_steps env T (below us) ≡ xs)
      → collect_steps env T (on_steps defs ts o (conditions_of ds) below) ≡ cond (is_left_out env ds) [] (cond (has_text (possible defs o) T) xs [])
  on_items o ds inside = within (are_within (possible defs o) ts) refl where
    guarded_on : (q l : Bool) → has_text (possible defs o) T ≡ q → cond (q && not l) (collect_steps env T (below (possible defs o))) [] ++ [] ≡ cond l [] (cond q xs [])
    guarded_on true true e = refl
    guarded_on true false e = append-nil _ ∙ inside e (possible defs o) (differ_possible defs o) e
    guarded_on false true e = refl
    guarded_on false false e = refl

    alone : (b : Bool) → is_one ts ≡ b → are_within (possible defs o) ts ≡ false
        → collect_steps env T (cond b done (behind (Some (possible defs o)) (conditions_of ds) (below (possible defs o)))) ≡ cond (is_left_out env ds) [] (cond (has_text (possible defs o) T) xs [])
    alone true one none =
        sym (nothing_left (is_left_out env ds))
        ∙ sym (ap (λ (q : Bool). cond (is_left_out env ds) [] (cond q xs [])) (one_has (λ X. has_text (possible defs o) X) ts T one here none))
    alone false one none =
        ap (λ (l : Bool). cond (has_text (possible defs o) T && l) (collect_steps env T (below (possible defs o))) [] ++ []) (conditions_pass env ds)
        ∙ guarded_on (has_text (possible defs o) T) (is_left_out env ds) refl

    within : (w : Bool) → are_within (possible defs o) ts ≡ w
        → collect_steps env T (cond w (behind None (conditions_of ds) (below ts)) (cond (is_one ts) done (behind (Some (possible defs o)) (conditions_of ds) (below (possible defs o)))))
        ≡ cond (is_left_out env ds) [] (cond (has_text (possible defs o) T) xs [])
    within true all =
        let it : has_text (possible defs o) T ≡ true = all_has (λ X. has_text (possible defs o) X) ts T all here in
        conditional_items env T ds (below ts) ∙ ap (cond (is_left_out env ds) []) (inside it ts differ here)
        ∙ sym (ap (λ (q : Bool). cond (is_left_out env ds) [] (cond q xs [])) it)
    within false none = alone (is_one ts) refl none

  pub inline_items : (o : Option Text) (ds : List Directive) → (applies defs o T ≡ true → (us : List Text) → Differ us → has_text us T ≡ true → collect_steps env T (below us) ≡ xs)
      → collect_steps env T (inline_steps defs ts o (conditions_of ds) below) ≡ cond (is_left_out env ds) [] (cond (applies defs o T) xs [])
  inline_items None ds inside = conditional_items env T ds (below ts) ∙ ap (cond (is_left_out env ds) []) (inside refl ts differ here)
  inline_items (Some o) ds inside = on (is_composite defs o) refl where
    on : (b : Bool) → is_composite defs o ≡ b
        → collect_steps env T (cond b (on_steps defs ts o (conditions_of ds) below) done) ≡ cond (is_left_out env ds) [] (cond (has_text (possible defs o) T) xs [])
    on true e = on_items o ds inside
    on false e = sym (nothing_left (is_left_out env ds)) ∙ sym (ap (λ (q : Bool). cond (is_left_out env ds) [] (cond q xs [])) (sound.nothing o T e))

-- ---- nodes

pub inside_type : (defs : Defs) (t : Text) (o : Option Text) (T : Text) → has_text (possible defs t) T ≡ true → applies defs o T ≡ true → has_text (possible defs (type_inside defs t o)) T ≡ true
inside_type defs t None T here e = here
inside_type defs t (Some o) T here e = inside_has defs t o T here e

pub step_items : (defs : Defs) → AreSound defs → (T : Text) (env : Values) (ts : List Text) (around t : Text) (s : Nodes) → Differ ts → has_text ts T ≡ true → has_text (possible defs t) T ≡ true
    → Suited defs around t s → collect_steps env T (steps_of defs ts s) ≡ map (step_item defs) (gather_in defs T env s)
step_items defs sound T env ts around t nodes.end differ here there suited = refl
step_items defs sound T env ts around t (nodes.field r n xs ds c of s p rest) differ here there suited =
    let own : Normal = field_steps defs ts (record { response = r; name = n; arguments = xs; connection = c }) (steps_of defs (types_at defs (base_of of)) s) in
    items_append env T (behind None (conditions_of ds) own) (steps_of defs ts rest)
    ∙ ap (λ (ys : List (Item Plan)). ys ++ collect_steps env T (steps_of defs ts rest)) (conditional_items env T ds own)
    ∙ mapped (step_item defs) (is_left_out env ds) (record { ask = ask_of_node defs T env r n xs c; part = child defs env of s } ∷ []) (gather_in defs T env rest) _ _
    (field_items defs T env ts r n xs c of s differ here (suited.0 T there))
    (step_items defs sound T env ts around t rest differ here there suited.2)
step_items defs sound T env ts around t (nodes.inline o ds s p rest) differ here there suited =
    items_append env T (inline_steps defs ts o (conditions_of ds) (λ us. steps_of defs us s)) (steps_of defs ts rest)
    ∙ ap (λ (ys : List (Item Plan)). ys ++ collect_steps env T (steps_of defs ts rest))
    (inline_items defs sound T env ts differ here (λ us. steps_of defs us s) (map (step_item defs) (gather_in defs T env s)) o ds
    (λ it us d h. step_items defs sound T env us _ (type_inside defs t o) s d h (inside_type defs t o T there it) suited.0))
    ∙ mapped (step_item defs) (is_left_out env ds) (cond (applies defs o T) (gather_in defs T env s) []) (gather_in defs T env rest) _ _
    (mapped_if (step_item defs) (applies defs o T) (gather_in defs T env s) (map (step_item defs) (gather_in defs T env s)) refl)
    (step_items defs sound T env ts around t rest differ here there suited.1)
