-- What the steps of plans that read give on an object type: steps behind one another, behind guards, and in classes.
use Rattle.std.proofs.Common.{◌≡◌, Bool, true, false, true≢false, cond, not, ◌&&◌, List, [], ◌∷◌, ◌++◌, Option, Some, None, refl, ap, sym, ◌∙◌, append_assoc}
use Rattle.std.proofs.lemmas.List.{append-nil}
use Rattle.std.specs.List.{list_all}
use Rattle.std.specs.Prelude.{option_map}
use Rattle.plan_ir.specs.gql_ast.Value.{Val}
use Rattle.plan_ir.specs.gql_ast.declared.directive.Directive.{Directive}
use Rattle.plan_ir.specs.gql_graph.Rules.{each}
use Rattle.plan_ir.specs.gql_plain.Order.{has_text}
use Rattle.plan_build.proofs.ClassLaws.{Differ, form_of, found, objects}
use Rattle.plan_build.proofs.ConditionLaws.{conditions_pass}
use Rattle.plan_build.proofs.OrderLaws.{differ_possible}
use Rattle.plan_build.proofs.StepLaws.{AreSound, all_has, either, nothing_left, one_has}
use Rattle.plan_build.specs.Classes.{Class, Target}
use Rattle.plan_build.specs.Conditions.{conditions_of}
use Rattle.plan_build.specs.Steps.{FieldNode, are_within, is_one}
use Rattle.plan_ir.specs.NormalMeaning.{ask_step, below_step, condition_passes, guard_passes, object_form, typename_ask}
use Rattle.plan_ir.specs.Reader.{Reader, done, typename, leaf, object, guarded, pointer, pointer_inline, reader_append}
use Rattle.plan_ir.specs.ReaderMeaning.{ReaderPart, collect_reading, field_item, scope_in}
use Rattle.plan_ir.specs.declared.guard.Condition.{Condition}
use Rattle.plan_read.proofs.KnownParts.{types_inside}
use Rattle.plan_read.specs.Steps.{behind, class_steps, guarded_classes, inline_steps, on_steps, target_step}
use Rattle.plan_build.specs.plan_collect.Collecting.{applies, is_left_out}
use Rattle.plan_build.specs.relay_model.Collection.{below_type, connection_asked}
use Rattle.plan_ir.specs.schema_tables.Types.{Text, Defs, is_composite, possible}
use Rattle.plan_ir.specs.schema_types.Environments.{Values, arguments_in_environment}
use Rattle.plan_ir.specs.store_model.Items as items
use Rattle.plan_ir.specs.store_model.Items.{Form, Item, pointed}
use Rattle.plan_ir.specs.store_model.Reaches.{types_of}

-- ---- steps behind one another

abbrev pointer_item : Values → (fragment : Text) → List (Text × Val) → (inline : Bool) → Reader → Item ReaderPart
pointer_item env f xs i child = pointed (record { fragment = f; scope = scope_in env xs; inline = i; body = record { environment = env; steps = child } })

pub items_append : (env : Values) (T : Text) (a b : Reader) → collect_reading env T (reader_append a b) ≡ collect_reading env T a ++ collect_reading env T b
items_append env T done b = refl
items_append env T (typename r rest) b = λ i. field_item (typename_ask r) env done ∷ items_append env T rest b i
items_append env T (leaf r n xs rest) b = λ i. field_item (ask_step env r n xs None items.leaf) env done ∷ items_append env T rest b i
items_append env T (object r n xs m ts is o c child rest) b =
    λ i. field_item (ask_step env r n xs c (object_form m (below_step ts is o))) env child ∷ items_append env T rest b i
items_append env T (guarded g child rest) b =
    (λ i. cond (guard_passes env T g) (collect_reading env T child) [] ++ items_append env T rest b i)
    ∙ sym (append_assoc (cond (guard_passes env T g) (collect_reading env T child) []) (collect_reading env T rest) (collect_reading env T b))
items_append env T (pointer f xs rest) b = λ i. pointer_item env f xs false done ∷ items_append env T rest b i
items_append env T (pointer_inline f xs child rest) b = λ i. pointer_item env f xs true child ∷ items_append env T rest b i

-- ---- conditions

behind_items : (env : Values) (T : Text) (cs : List Condition) (s : Reader) → collect_reading env T (behind None cs s) ≡ cond (list_all (condition_passes env) cs) (collect_reading env T s) []
behind_items env T [] s = refl
behind_items env T (c ∷ cs) s = append-nil _

pub conditional_items : (env : Values) (T : Text) (ds : List Directive) (s : Reader) → collect_reading env T (behind None (conditions_of ds) s) ≡ cond (is_left_out env ds) [] (collect_reading env T s)
conditional_items env T ds s =
    behind_items env T (conditions_of ds) s ∙ ap (λ (b : Bool). cond b (collect_reading env T s) []) (conditions_pass env ds) ∙ either (is_left_out env ds) (collect_reading env T s)

-- ---- classes

module _ (env : Values) (T : Text) (step : Target → Reader) where
  guarded_items : (cs : List Class) → collect_reading env T (guarded_classes step cs) ≡ each (λ t. collect_reading env T (step t)) (found T cs)
  guarded_items [] = refl
  guarded_items (c ∷ cs) = on (guarded_items cs) (has_text c.types T) where
    on : collect_reading env T (guarded_classes step cs) ≡ each (λ t. collect_reading env T (step t)) (found T cs) → (b : Bool)
        → cond (b && true) (collect_reading env T (step c.target)) [] ++ collect_reading env T (guarded_classes step cs)
        ≡ each (λ t. collect_reading env T (step t)) (cond b (c.target ∷ []) [] ++ found T cs)
    on rest true = ap (λ (xs : List (Item ReaderPart)). collect_reading env T (step c.target) ++ xs) rest
    on rest false = rest

  one_item : (cs : List Class) (t : Target) → found T cs ≡ t ∷ [] → collect_reading env T (guarded_classes step cs) ≡ collect_reading env T (step t)
  one_item cs t e = guarded_items cs ∙ ap (each (λ (u : Target). collect_reading env T (step u))) e ∙ append-nil (collect_reading env T (step t))

  pub class_items : (cs : List Class) (t : Target) → found T cs ≡ t ∷ [] → collect_reading env T (class_steps step cs) ≡ collect_reading env T (step t)
  class_items [] t e = one_item [] t e
  class_items (c ∷ []) t e = on (has_text c.types T) e where
    on : (b : Bool) → cond b (c.target ∷ []) [] ++ [] ≡ t ∷ [] → collect_reading env T (step c.target) ≡ collect_reading env T (step t)
    on true h = let same : c.target ≡ t = cc h in ap (λ (u : Target). collect_reading env T (step u)) same
    on false h = cc
  class_items (c ∷ d ∷ cs) t e = one_item (c ∷ d ∷ cs) t e

-- ---- fields

-- the steps below a field of this form
abbrev pub below_form : Form → (child : Reader) → Reader
below_form items.typename child = done
below_form items.leaf child = done
below_form (items.one b) child = child
below_form (items.many b) child = child

pub below_types : (form : Form) (child : Reader) (U : Text) → has_text (types_of form) U ≡ true → below_form form child ≡ child
below_types items.typename child U h = absurd (true≢false (sym h))
below_types items.leaf child U h = absurd (true≢false (sym h))
below_types (items.one b) child U h = refl
below_types (items.many b) child U h = refl

-- a field of this form, with what stands below it
abbrev pub item_of_form : Values → FieldNode → (child : Reader) → Form → Item ReaderPart
item_of_form env f child form =
    field_item (record { response = f.response; name = f.name; arguments = arguments_in_environment env f.arguments; connection = option_map connection_asked f.connection; form = form })
    env (below_form form child)

pub target_items : (defs : Defs) (T : Text) (env : Values) (f : FieldNode) (child : Reader) (t : Target) → (form_of defs t ≡ items.leaf → f.connection ≡ None)
    → collect_reading env T (target_step defs f child t) ≡ item_of_form env f child (form_of defs t) ∷ []
target_items defs T env f child t plain = on (is_composite defs t.base) t.many plain where
  on : (b m : Bool) → (cond b (objects m (below_type defs t.base)) items.leaf ≡ items.leaf → f.connection ≡ None)
      → collect_reading env T (cond b (object f.response f.name f.arguments m (possible defs t.base) (below_type defs t.base).identified (below_type defs t.base).open_type f.connection child done) (leaf f.response f.name f.arguments done))
      ≡ item_of_form env f child (cond b (objects m (below_type defs t.base)) items.leaf) ∷ []
  on true true h = refl
  on true false h = refl
  on false m h = λ i. field_item (record {
    response = f.response;
    name = f.name;
    arguments = arguments_in_environment env f.arguments;
    connection = option_map connection_asked (sym (h refl) i);
    form = items.leaf;
  }) env done ∷ []

-- ---- fragments

-- the types inside a fragment differ too, and have each type around of which the fragment is
pub differ_inside : (defs : Defs) (ts : List Text) (o : Option Text) → Differ ts → Differ (types_inside defs ts o)
differ_inside defs ts None differ = differ
differ_inside defs ts (Some o) differ = on (are_within (possible defs o) ts) where
  on : (b : Bool) → Differ (cond b ts (possible defs o))
  on true = differ
  on false = differ_possible defs o

pub has_inside : (defs : Defs) (ts : List Text) (o : Option Text) (T : Text) → has_text ts T ≡ true → applies defs o T ≡ true → has_text (types_inside defs ts o) T ≡ true
has_inside defs ts None T here e = here
has_inside defs ts (Some o) T here e = on (are_within (possible defs o) ts) where
  on : (b : Bool) → has_text (cond b ts (possible defs o)) T ≡ true
  on true = here
  on false = e

module _ (defs : Defs) (sound : AreSound defs) (T : Text) (env : Values) (ts : List Text) (here : has_text ts T ≡ true) (below : List Text → Reader) where
  abbrev inner : List Text → List (Item ReaderPart)
  inner us = collect_reading env T (below us)

  -- the fragment is on a composite type
  on_items : (o : Text) (ds : List Directive)
      → collect_reading env T (on_steps defs ts o (conditions_of ds) below) ≡ cond (is_left_out env ds) [] (cond (has_text (possible defs o) T) (inner (types_inside defs ts (Some o))) [])
  on_items o ds = within (are_within (possible defs o) ts) refl where
    guarded_on : (q l : Bool) → cond (q && not l) (inner (possible defs o)) [] ++ [] ≡ cond l [] (cond q (inner (possible defs o)) [])
    guarded_on true true = refl
    guarded_on true false = append-nil _
    guarded_on false true = refl
    guarded_on false false = refl

    alone : (b : Bool) → is_one ts ≡ b → are_within (possible defs o) ts ≡ false
        → collect_reading env T (cond b done (behind (Some (possible defs o)) (conditions_of ds) (below (possible defs o)))) ≡ cond (is_left_out env ds) [] (cond (has_text (possible defs o) T) (inner (possible defs o)) [])
    alone true one none =
        sym (nothing_left (is_left_out env ds))
        ∙ sym (ap (λ (q : Bool). cond (is_left_out env ds) [] (cond q (inner (possible defs o)) [])) (one_has (λ X. has_text (possible defs o) X) ts T one here none))
    alone false one none =
        ap (λ (l : Bool). cond (has_text (possible defs o) T && l) (inner (possible defs o)) [] ++ []) (conditions_pass env ds)
        ∙ guarded_on (has_text (possible defs o) T) (is_left_out env ds)

    within : (w : Bool) → are_within (possible defs o) ts ≡ w
        → collect_reading env T (cond w (behind None (conditions_of ds) (below ts)) (cond (is_one ts) done (behind (Some (possible defs o)) (conditions_of ds) (below (possible defs o)))))
        ≡ cond (is_left_out env ds) [] (cond (has_text (possible defs o) T) (inner (cond w ts (possible defs o))) [])
    within true all =
        let it : has_text (possible defs o) T ≡ true = all_has (λ X. has_text (possible defs o) X) ts T all here in
        conditional_items env T ds (below ts) ∙ sym (ap (λ (q : Bool). cond (is_left_out env ds) [] (cond q (inner ts) [])) it)
    within false none = alone (is_one ts) refl none

  pub inline_items : (o : Option Text) (ds : List Directive)
      → collect_reading env T (inline_steps defs ts o (conditions_of ds) below) ≡ cond (is_left_out env ds) [] (cond (applies defs o T) (inner (types_inside defs ts o)) [])
  inline_items None ds = conditional_items env T ds (below ts)
  inline_items (Some o) ds = on (is_composite defs o) refl where
    on : (b : Bool) → is_composite defs o ≡ b
        → collect_reading env T (cond b (on_steps defs ts o (conditions_of ds) below) done) ≡ cond (is_left_out env ds) [] (cond (has_text (possible defs o) T) (inner (types_inside defs ts (Some o))) [])
    on true e = on_items o ds
    on false e = sym (nothing_left (is_left_out env ds)) ∙ sym (ap (λ (q : Bool). cond (is_left_out env ds) [] (cond q (inner (types_inside defs ts (Some o))) [])) (sound.nothing o T e))
