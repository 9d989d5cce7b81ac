-- The plan of selections that are read gives, one by one, what they give.
use Rattle.std.proofs.Common.{◌≡◌, ℕ, zero, suc, ◌+◌, Bool, true, false, true≢false, cond, List, [], ◌∷◌, ◌++◌, Option, Some, None, bytes_eq, refl, ap, sym, ◌∙◌}
use Rattle.std.specs.List.{AllZip}
use Rattle.std.specs.Prelude.{codes, option_map}
use Rattle.plan_ir.specs.gql_ast.Sels as sels
use Rattle.plan_ir.specs.gql_ast.Sels.{Sels}
use Rattle.plan_ir.specs.gql_ast.Ty.{Ty}
use Rattle.plan_ir.specs.gql_ast.declared.directive.Directive.{Directive}
use Rattle.plan_ir.proofs.gql_graph_laws.TextSteps.{same_text}
use Rattle.plan_ir.specs.gql_plain.Order.{has_text}
use Rattle.plan_build.proofs.ClassLaws.{Differ, OneLike, form_of, found, one_class}
use Rattle.plan_build.proofs.StepLaws.{AreSound, inside_type}
use Rattle.plan_build.proofs.Substituted.{left-substituted}
use Rattle.plan_build.specs.Classes.{classes_of, target_on}
use Rattle.plan_build.specs.Conditions.{conditions_of}
use Rattle.plan_build.specs.Steps.{FieldNode, types_at}
use Rattle.plan_build.specs.Suited.{FieldSuits, Suited, type_inside}
use Rattle.plan_ir.specs.Expansion.{Project, enter_with, expansion, expansion_with, is_condition, is_printed, printed_conditions, printed_directives, response_key, selections_from}
use Rattle.plan_ir.specs.Nodes as nodes
use Rattle.plan_ir.specs.Nodes.{Nodes, nodes_append}
use Rattle.plan_ir.specs.Reader.{Reader, done, typename, reader_append}
use Rattle.plan_ir.specs.ReaderMeaning.{ReaderPart, collect_reader, collect_reading, field_item}
use Rattle.plan_ir.specs.Substitution.{Scope, scope_at_spread, substitute_in}
use Rattle.plan_read.proofs.KnownParts.{Entered, Known, as_plan, gather, gather_in, gather_with, known_at, known_field, known_inside, known_pointer, known_spread, nodes_within, not_entered, types_inside}
use Rattle.plan_read.proofs.ReaderItems.{below_form, below_types, class_items, conditional_items, differ_inside, has_inside, inline_items, item_of_form, items_append, target_items}
use Rattle.plan_read.proofs.Zips.{zip_as, zip_if, zip_kept, zip_none}
use Rattle.plan_read.specs.Steps.{behind, class_steps, entered_steps, field_steps, inline_steps, pointer_arguments, pointer_step, reader_steps, spread_steps, steps_with, target_step}
use Rattle.plan_build.proofs.plan_collect_laws.Collects.{not_printed}
use Rattle.plan_build.proofs.plan_collect_laws.Evaluating.{Means, means_inside}
use Rattle.plan_build.specs.plan_collect.Collecting.{applies, environment_inside, is_left_out}
use Rattle.plan_ir.specs.relay_marks.Connections.{connection_among}
use Rattle.plan_ir.specs.relay_marks.Locals.{locals_of}
use Rattle.plan_build.specs.relay_model.Collection.{connection_asked, form_on, is_inline, is_open}
use Rattle.plan_ir.specs.Additions.{type_or}
use Rattle.plan_ir.specs.schema_tables.Types.{Text, Defs, base_of, possible}
use Rattle.plan_ir.specs.schema_trees.Located.{directives_nodes}
use Rattle.plan_ir.specs.schema_types.Environments.{Values, arguments_in_environment}
use Rattle.plan_ir.specs.schema_types.NameRules.{fragment_named}
use Rattle.plan_ir.specs.schema_types.Sites.{FragmentAt, arguments_nodes, below, condition_or, field_type, head_nodes, optional_name_nodes, selections_nodes}
use Rattle.plan_ir.proofs.store_model_laws.SameItems.{AlikeItem, zip_append, zip_either}
use Rattle.plan_ir.specs.store_model.Items as items
use Rattle.plan_ir.specs.store_model.Items.{Form, Item}

-- ---- a field

field_items : (defs : Defs) (T : Text) (env : Values) (ts : List Text) (f : FieldNode) (of : Ty) (child : Reader) → Differ ts → has_text ts T ≡ true
    → FieldSuits defs T f.name f.arguments f.connection of → collect_reading env T (field_steps defs ts f child) ≡ item_of_form env f child (form_on defs T f.name) ∷ []
field_items defs T env ts f of child differ here suits = on (bytes_eq f.name (codes "__typename")) refl where
  on : (b : Bool) → bytes_eq f.name (codes "__typename") ≡ b
      → collect_reading env T (cond b (typename f.response done) (class_steps (target_step defs f child) (classes_of defs f.name ts))) ≡ item_of_form env f child (form_on defs T f.name) ∷ []
  on true e =
      let name : f.name ≡ codes "__typename" = same_text f.name (codes "__typename") e in
      let form : items.typename ≡ form_on defs T f.name = sym (ap (λ (b : Bool). cond b items.typename (form_of defs (target_on defs T f.name))) e) in
      λ i. field_item (record {
        response = f.response;
        name = sym name i;
        arguments = arguments_in_environment env (sym (suits.bare name) i);
        connection = option_map connection_asked (sym (suits.plain name) i);
        form = form i;
      }) env (below_form (form i) child) ∷ []
  on false e =
      let one : OneLike defs (target_on defs T f.name) (found T (classes_of defs f.name ts)) = one_class defs f.name T ts differ here in
      let form : form_of defs one.0 ≡ form_on defs T f.name = one.2 ∙ sym (ap (λ (b : Bool). cond b items.typename (form_of defs (target_on defs T f.name))) e) in
      class_items env T (target_step defs f child) (classes_of defs f.name ts) one.0 one.1
      ∙ target_items defs T env f child one.0 (λ h. suits.leaf_is_plain (sym form ∙ h))
      ∙ ap (λ (g : Form). item_of_form env f child g ∷ []) form

-- ---- items

-- the plan of selections, where the records of some type are read by it
abbrev pub IsPlan : Project → Values → Known → ReaderPart → Type 0
IsPlan p own x g = (U : Text) → has_text x.met U ≡ true → g ≡ as_plan p own x

abbrev pub AlikeSteps : Project → Values → List (Item Known) → List (Item ReaderPart) → Type 0
AlikeSteps p own xs ys = AllZip (AlikeItem (IsPlan p own)) xs ys

-- a spread by its fragment
abbrev steps_at : (spreads : ℕ) → Project → Scope → (types : List Text) → List Directive → Option FragmentAt → Reader
steps_at k p scope ts ds f = spread_steps p.defs ts scope ds f (λ g us. reader_steps k p (scope_at_spread scope ds g) (Some g.on.name) us g.selections)

abbrev pub nodes_inside : (spreads : ℕ) → Project → Scope → List Directive → FragmentAt → Nodes
nodes_inside k p scope ds f = expansion k p (scope_at_spread scope ds f) (selections_from f) (Some f.on.name) f.selections

module _ (p : Project) (own : Values) (sound : AreSound p.defs) (T : Text) (k : ℕ) (enters : (from : ℕ) → Text → List Directive → Nodes → Nodes) (enter : Entered)
    (step : List Text → Text → List Directive → Reader) (scope : Scope) (env : Values) (means : Means own scope env)
    (whole : (over : Option Text) (us : List Text) (s : Sels) → reader_steps k p scope over us s ≡ steps_with step p.defs scope over us s)
    (entered : (u : Text) (us : List Text) (n : Text) (ds : List Directive) (from : ℕ) (around : Text) (rest : Nodes) → Differ us → has_text us T ≡ true → has_text (possible p.defs u) T ≡ true
    → Suited p.defs around u (enters from n ds rest)
    → AlikeSteps p own (cond (is_left_out own (printed_conditions scope ds)) [] (enter u us n ds)) (collect_reading own T (step us n ds)) × Suited p.defs around u rest) where
  abbrev seen : (from : ℕ) → (over : Option Text) → (type : Text) → (types : List Text) → Sels → List (Item Known)
  seen from over u us s = gather_with enter p own T k scope env from over u us s

  abbrev planned : (over : Option Text) → (types : List Text) → Sels → List (Item ReaderPart)
  planned over us s = collect_reading own T (steps_with step p.defs scope over us s)

  left_out : (ds : List Directive) → is_left_out own (printed_directives scope ds) ≡ is_left_out own (printed_conditions scope ds)
  left_out ds = left-substituted own env scope means is_printed not_printed ds ∙ sym (left-substituted own env scope means is_condition (λ n e. e) ds)

  items_with : (from : ℕ) (over : Option Text) (around u : Text) (us : List Text) (s : Sels) → Differ us → has_text us T ≡ true → has_text (possible p.defs u) T ≡ true
      → Suited p.defs around u (expansion_with enters p scope from over s) → AlikeSteps p own (seen from over u us s) (planned over us s)
  items_with from over around u us sels.end differ here there suited = tt
  items_with from over around u us (sels.field a n xs ds s rest) differ here there suited =
      let next : ℕ = from + head_nodes a + arguments_nodes xs + directives_nodes ds + selections_nodes s in
      let f : FieldNode = record { response = response_key a n; name = n; arguments = substitute_in scope xs; connection = connection_among ds } in
      let types : List Text = types_at p.defs (base_of (type_or (field_type p.defs over n))) in
      let child : Reader = steps_with step p.defs scope (below p.defs over n) types s in
      let first : Reader = behind None (conditions_of (printed_conditions scope ds)) (field_steps p.defs us f child) in
      zip_as (AlikeItem (IsPlan p own)) (seen from over u us (sels.field a n xs ds s rest)) (collect_reading own T (reader_append first (steps_with step p.defs scope over us rest)))
      (cond (is_left_out own (printed_conditions scope ds)) [] (item_of_form own f child (form_on p.defs T n) ∷ []) ++ planned over us rest)
      (items_append own T first (steps_with step p.defs scope over us rest)
      ∙ ap (λ (ys : List (Item ReaderPart)). ys ++ planned over us rest)
      (conditional_items own T (printed_conditions scope ds) (field_steps p.defs us f child)
      ∙ ap (cond (is_left_out own (printed_conditions scope ds)) []) (field_items p.defs T own us f (type_or (field_type p.defs over n)) child differ here (suited.0 T there))))
      (zip_kept (AlikeItem (IsPlan p own)) (is_left_out own (printed_directives scope ds)) (is_left_out own (printed_conditions scope ds)) (left_out ds)
      (known_field p own T k scope env from over a n xs ds s ∷ []) (item_of_form own f child (form_on p.defs T n) ∷ []) (seen next over u us rest) (planned over us rest) (
        record {
          ask = refl;
          part = λ U h i. record { environment = own; steps = (below_types (form_on p.defs T n) child U h ∙ sym (whole (below p.defs over n) types s)) i };
        },
        tt,
      )
      (items_with next over around u us rest differ here there suited.2))
  items_with from over around u us (sels.spread n ds rest) differ here there suited =
      let next : ℕ = from + 2 + directives_nodes ds in
      let e = entered u us n ds from around (expansion_with enters p scope next over rest) differ here there suited in
      zip_as (AlikeItem (IsPlan p own)) (seen from over u us (sels.spread n ds rest)) (planned over us (sels.spread n ds rest)) (collect_reading own T (step us n ds) ++ planned over us rest)
      (items_append own T (step us n ds) (steps_with step p.defs scope over us rest))
      (zip_append (AlikeItem (IsPlan p own)) (cond (is_left_out own (printed_conditions scope ds)) [] (enter u us n ds)) (collect_reading own T (step us n ds)) (seen next over u us rest) (planned over us rest)
      e.0 (items_with next over around u us rest differ here there e.1))
  items_with from over around u us (sels.inline o ds s rest) differ here there suited =
      let inner : ℕ = from + 1 + optional_name_nodes o + directives_nodes ds in
      let vs : List Text = types_inside p.defs us o in
      let first : Reader = inline_steps p.defs us o (conditions_of (printed_conditions scope ds)) (λ ws. steps_with step p.defs scope (condition_or over o) ws s) in
      let within : List (Item Known) = seen inner (condition_or over o) (type_inside p.defs u o) vs s in
      zip_as (AlikeItem (IsPlan p own)) (seen from over u us (sels.inline o ds s rest)) (collect_reading own T (reader_append first (steps_with step p.defs scope over us rest)))
      (cond (is_left_out own (printed_conditions scope ds)) [] (cond (applies p.defs o T) (planned (condition_or over o) vs s) []) ++ planned over us rest)
      (items_append own T first (steps_with step p.defs scope over us rest)
      ∙ ap (λ (ys : List (Item ReaderPart)). ys ++ planned over us rest)
      (inline_items p.defs sound T own us here (λ ws. steps_with step p.defs scope (condition_or over o) ws s) o (printed_conditions scope ds)))
      (zip_kept (AlikeItem (IsPlan p own)) (is_left_out own (printed_directives scope ds)) (is_left_out own (printed_conditions scope ds)) (left_out ds)
      (cond (applies p.defs o T) within []) (cond (applies p.defs o T) (planned (condition_or over o) vs s) []) (seen (inner + selections_nodes s) over u us rest) (planned over us rest)
      (zip_if (AlikeItem (IsPlan p own)) (applies p.defs o T) within (planned (condition_or over o) vs s)
      (λ e. items_with inner (condition_or over o) _ (type_inside p.defs u o) vs s (differ_inside p.defs us o differ) (has_inside p.defs us o T here e) (inside_type p.defs u o T there e) suited.0))
      (items_with (inner + selections_nodes s) over around u us rest differ here there suited.1))

-- ---- spreads

module _ (p : Project) (own : Values) (sound : AreSound p.defs) (T : Text) where
  abbrev gathered : (spreads : ℕ) → Known → List (Item Known)
  gathered k x = gather_in k p own T x.scope x.part.environment x.from x.over x.type x.types x.part.selections

  abbrev read_by : (spreads : ℕ) → Known → List (Item ReaderPart)
  read_by k x = collect_reading own T (reader_steps k p x.scope x.over x.types x.part.selections)

  module _ (k : ℕ) (scope : Scope) (env : Values) (u : Text) (us : List Text) (ds : List Directive) where
    abbrev within : FragmentAt → Known
    within f = known_inside p own k scope env u us ds f

    pointer_alike : (f : FragmentAt) (b : Bool) → is_inline f ≡ b
        → AlikeSteps p own (known_pointer p own k scope env u us ds f ∷ [])
        (collect_reading own T (pointer_step f.name.name (pointer_arguments scope ds (locals_of f.directives)) b (reader_steps k p (within f).scope (within f).over (within f).types f.selections)))
    pointer_alike f true e = (record { fragment = refl; scope = refl; inline = e; body = λ i U h. refl }, tt)
    pointer_alike f false e = (record { fragment = refl; scope = refl; inline = e; body = λ i. absurd (true≢false (sym i ∙ e)) }, tt)

    spread_alike : (f : FragmentAt) → AlikeSteps p own (gathered k (within f)) (read_by k (within f)) → (b : Bool)
        → AlikeSteps p own (cond b (gathered k (within f)) (known_pointer p own k scope env u us ds f ∷ []))
        (collect_reading own T (cond b (reader_steps k p (within f).scope (within f).over (within f).types f.selections)
        (pointer_step f.name.name (pointer_arguments scope ds (locals_of f.directives)) (is_inline f) (reader_steps k p (within f).scope (within f).over (within f).types f.selections))))
    spread_alike f deeper true = deeper
    spread_alike f deeper false = pointer_alike f (is_inline f) refl

    found_alike : ((f : FragmentAt) → has_text (within f).types T ≡ true → has_text (possible p.defs (within f).type) T ≡ true
        → Suited p.defs f.on.name (within f).type (nodes_inside k p scope ds f) → AlikeSteps p own (gathered k (within f)) (read_by k (within f)))
        → (o : Option FragmentAt) (from : ℕ) (around : Text) (rest : Nodes) → has_text us T ≡ true → has_text (possible p.defs u) T ≡ true
        → Suited p.defs around u (enter_with (nodes_inside k p scope ds) p scope from o ds rest)
        → AlikeSteps p own (cond (is_left_out own (printed_conditions scope ds)) [] (known_at k p own T scope env u us ds o)) (collect_reading own T (steps_at k p scope us ds o))
        × Suited p.defs around u rest
    found_alike deeper None from around rest here there suited = (zip_none (AlikeItem (IsPlan p own)) (is_left_out own (printed_conditions scope ds)) true, suited)
    found_alike deeper (Some f) from around rest here there suited =
        let inner : List Text → Reader = λ vs. entered_steps scope ds f (reader_steps k p (scope_at_spread scope ds f) (Some f.on.name) vs f.selections) in
        let b : Bool = applies p.defs (Some f.on.name) T in
        let xs : List (Item Known) = known_spread (gathered k) p own k scope env u us ds f in
        let ys : List (Item ReaderPart) = collect_reading own T (inner (within f).types) in
        let out : Bool = is_left_out own (printed_conditions scope ds) in (
          zip_as (AlikeItem (IsPlan p own)) (cond out [] (cond b xs [])) (collect_reading own T (steps_at k p scope us ds (Some f))) (cond out [] (cond b ys []))
              (inline_items p.defs sound T own us here inner (Some f.on.name) (printed_conditions scope ds))
              (zip_either (AlikeItem (IsPlan p own)) out [] (cond b xs []) [] (cond b ys []) tt
              (zip_if (AlikeItem (IsPlan p own)) b xs ys
              (λ e. spread_alike f (deeper f (has_inside p.defs us (Some f.on.name) T here e) (inside_type p.defs u (Some f.on.name) T there e) suited.0) (is_open ds)))),
          suited.1,
        )

  all_items : (k : ℕ) (scope : Scope) (env : Values) → Means own scope env → (from : ℕ) (over : Option Text) (around u : Text) (us : List Text) (s : Sels) → Differ us → has_text us T ≡ true
      → has_text (possible p.defs u) T ≡ true → Suited p.defs around u (expansion k p scope from over s)
      → AlikeSteps p own (gather_in k p own T scope env from over u us s) (collect_reading own T (reader_steps k p scope over us s))
  all_items zero scope env means =
      items_with p own sound T zero (λ from n ds rest. rest) not_entered (λ us n ds. done) scope env means (λ over us s. refl)
      (λ u us n ds from around rest differ here there suited. (zip_none (AlikeItem (IsPlan p own)) (is_left_out own (printed_conditions scope ds)) true, suited))
  all_items (suc k) scope env means =
      items_with p own sound T (suc k) (λ from n ds rest. enter_with (nodes_inside k p scope ds) p scope from (fragment_named p.fragments n) ds rest)
      (λ u us n ds. known_at k p own T scope env u us ds (fragment_named p.fragments n)) (λ us n ds. steps_at k p scope us ds (fragment_named p.fragments n)) scope env means (λ over us s. refl)
      (λ u us n ds from around rest differ here there suited. found_alike k scope env u us ds
      (λ f has can fits. all_items k (scope_at_spread scope ds f) (environment_inside own env ds f) (means_inside own env scope means ds f) (selections_from f) (Some f.on.name) f.on.name
      (known_inside p own k scope env u us ds f).type (known_inside p own k scope env u us ds f).types f.selections (differ_inside p.defs us (Some f.on.name) differ) has can fits)
      (fragment_named p.fragments n) from around rest here there suited)

-- what suits with nodes behind it suits
pub suited_before : (defs : Defs) (around u : Text) (a b : Nodes) → Suited defs around u (nodes_append a b) → Suited defs around u a
suited_before defs around u nodes.end b h = tt
suited_before defs around u (nodes.field r n xs ds c of s q rest) b h = (h.0, h.1, suited_before defs around u rest b h.2)
suited_before defs around u (nodes.inline o ds s q rest) b h = (h.0, suited_before defs around u rest b h.1)

pub plan_items : (p : Project) (own : Values) → AreSound p.defs → (T : Text) (x : Known) → Means own x.scope x.part.environment → Differ x.types → has_text x.types T ≡ true
    → has_text (possible p.defs x.type) T ≡ true → Suited p.defs x.around x.type (nodes_within p x) → AlikeSteps p own (gather p own T x) (collect_reader T (as_plan p own x))
plan_items p own sound T x means differ here there suited =
    all_items p own sound T x.part.spreads x.scope x.part.environment means x.from x.over x.around x.type x.types x.part.selections differ here there
    (suited_before p.defs x.around x.type (expansion x.part.spreads p x.scope x.from x.over x.part.selections) x.added suited)
