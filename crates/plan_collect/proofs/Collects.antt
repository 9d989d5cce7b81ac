-- The operation that a text is and the source operation with its additions collect the same groups.
use Rattle.std.proofs.Common.{◌≡◌, ℕ, zero, suc, ◌+◌, Bool, true, false, cond, not, ◌&&◌, ◌||◌, List, [], ◌∷◌, ◌++◌, map, codes, Option, Some, None, bytes_eq, refl, sym, ap, subst, ◌∙◌, ◌⊎◌, inl, inr}
use Rattle.std.specs.Prelude.{is_some}
use Rattle.std.proofs.lemmas.Slice.Eq.{bytes_eq-Decides}
use Rattle.std.specs.List.{AllZip, filter}
use Rattle.plan_ir.specs.gql_ast.Sels as sels
use Rattle.plan_ir.specs.gql_ast.Sels.{Sels, sels_append}
use Rattle.plan_ir.specs.gql_ast.declared.directive.Directive.{Directive}
use Rattle.plan_ir.specs.Additions.{additions, type_or}
use Rattle.plan_ir.specs.Expansion as expansions
use Rattle.plan_ir.specs.Expansion.{directives_such, enter_with, expansion, expansion_with, is_condition, is_printed, operation_from, printed_conditions, response_key, selections_from, spreads_in}
use Rattle.plan_ir.specs.relay_marks.Connections.{connection_among}
use Rattle.plan_ir.specs.Nodes.{Nodes, end, field, inline, nodes_append}
use Rattle.plan_ir.specs.Substitution.{Arguments, Scope, operation_scope, scope_at_spread, substitute_in}
use Rattle.plan_collect.proofs.AddedFields.{Added, IsBare, all_added, nothing_added, printed-append}
use Rattle.plan_collect.proofs.Evaluating.{Means, arguments-printed, means_inside}
use Rattle.plan_collect.proofs.WholeForm.{Around, fragment_selections, in-append, items_at_spread, items_of_spread, setting, zip_kept, zip_where}
use Rattle.plan_collect.specs.Collecting.{applies, environment_inside, is_left_out, leaves_out, with_additions}
use Rattle.plan_collect.specs.Collection.{Part, ask_of, collect, collect_in, collect_with}
use Rattle.plan_collect.specs.SameGroups.{CollectTheSame, SameAsk, SameGroup, TextCollectsTheSame}
use Rattle.plan_collect.specs.Printed.{alias_of, printed_arguments, printed_directive, printed_directives, printed_selections}
use Rattle.plan_ir.specs.schema_tables.Types.{Text, base_of, root}
use Rattle.plan_ir.specs.schema_trees.Located.{directives_nodes}
use Rattle.plan_ir.specs.schema_types.Environments.{Values, arguments_in_environment, is_true, value_in}
use Rattle.plan_ir.specs.schema_types.NameRules.{fragment_named}
use Rattle.plan_ir.specs.schema_types.Sites.{FragmentAt, arguments_nodes, below, condition_or, field_type, head_nodes, optional_name_nodes, selections_nodes}
use Rattle.plan_ir.proofs.store_model_laws.SameItems.{zip_append, zip_cond}
use Rattle.plan_ir.specs.store_model.Items.{Asked, Group, Item, asked, asked_of, collect_all, grouped_onto, groups_of, members, parts, pointed, pointers, with_asked}

-- ---- what is left out

-- a directive by its name and the values of its arguments
abbrev leaves_by : Text → Values → Bool
leaves_by n xs = (bytes_eq n (codes "skip") && is_true (value_in xs (codes "if"))) || (bytes_eq n (codes "include") && not (is_true (value_in xs (codes "if"))))

pub no_condition : (a b c : Bool) → (a || b) ≡ false → ((a && c) || (b && not c)) ≡ false
no_condition true b c e = cc
no_condition false true c e = cc
no_condition false false c e = refl

-- what is not printed is no condition
pub not_printed : (n : Text) → is_printed n ≡ false → is_condition n ≡ false
not_printed n e = at (bytes_eq n (codes "skip")) refl (bytes_eq n (codes "include")) refl
  where
    at : (a : Bool) → bytes_eq n (codes "skip") ≡ a → (b : Bool) → bytes_eq n (codes "include") ≡ b → (a || b) ≡ false
    at true f b g =
        let hidden : is_printed (codes "skip") ≡ false = ap is_printed (sym ((bytes_eq-Decides n (codes "skip")).0 f)) ∙ e in
        cc
    at false f true g =
        let hidden : is_printed (codes "include") ≡ false = ap is_printed (sym ((bytes_eq-Decides n (codes "include")).0 g)) ∙ e in
        cc
    at false f false g = refl

module _ (own env : Values) (scope : Scope) (means : Means own scope env) where
  leaves-printed : (d : Directive)
      → leaves_out own (printed_directive (record { name = d.name; arguments = substitute_in scope d.arguments })) ≡ leaves_out env d
  leaves-printed d = ap (leaves_by d.name) (arguments-printed own env scope means d.arguments)

  -- the directives of the text leave out what those of the source leave out
  left-printed : (shows : Text → Bool) → ((n : Text) → shows n ≡ false → is_condition n ≡ false) → (ds : List Directive)
      → is_left_out own (printed_directives (directives_such shows scope ds)) ≡ is_left_out env ds
  left-printed shows hides [] = refl
  left-printed shows hides (d ∷ ds) = at (left-printed shows hides ds) (shows d.name) refl
    where
      kept : List Directive
      kept = filter (λ (x : Directive). shows x.name) ds

      sub : Directive → Directive
      sub x = record { name = x.name; arguments = substitute_in scope x.arguments }

      at : is_left_out own (printed_directives (directives_such shows scope ds)) ≡ is_left_out env ds → (b : Bool) → shows d.name ≡ b
          → is_left_out own (printed_directives (map sub (cond b (d ∷ kept) kept))) ≡ (leaves_out env d || is_left_out env ds)
      at rest true e = λ i. leaves-printed d i || rest i
      at rest false e =
          rest
          ∙ ap (λ b. b || is_left_out env ds)
          (sym (no_condition (bytes_eq d.name (codes "skip")) (bytes_eq d.name (codes "include")) (is_true (value_in (arguments_in_environment env d.arguments) (codes "if"))) (hides d.name e)))

-- ---- items

-- selections with additions, and the printed selections that they become
pub record Expands (w : Around) (f g : Part) : Type 0 where
  pub scope : Scope
  pub means : Means w.own scope f.environment
  pub from : ℕ
  pub around : Option Text
  pub written : Sels
  pub text_added : Nodes
  pub source_added : Nodes
  pub added : Added text_added source_added
  pub source : f.selections ≡ sels_append (with_additions w.project.defs w.place around written) (printed_selections source_added)
  pub text : g.selections ≡ printed_selections (nodes_append (expansion f.spreads w.project scope from around written) text_added)
  pub environment : g.environment ≡ w.own
  pub spreads : g.spreads ≡ zero

-- fields that were added
pub record Bare (w : Around) (f g : Part) : Type 0 where
  pub bare : IsBare g.selections
  pub same : f.selections ≡ g.selections
  pub environment : g.environment ≡ w.own
  pub spreads : g.spreads ≡ zero

abbrev pub Comes : Around → Part → Part → Type 0
Comes w f g = Expands w f g ⊎ Bare w f g

-- the same field, and what comes from what stands below it
pub record Alike (w : Around) (a b : Asked Part) : Type 0 where
  pub ask : SameAsk a.ask b.ask
  pub below : Comes w a.part b.part

-- fields alone
abbrev pub AlikeItem : Around → Item Part → Item Part → Type 0
AlikeItem w (asked a) (asked b) = Alike w a b
AlikeItem w (asked a) (pointed q) = ⊥
AlikeItem w (pointed p) b = ⊥

abbrev AlikeItems : Around → List (Item Part) → List (Item Part) → Type 0
AlikeItems w xs ys = AllZip (AlikeItem w) xs ys

-- what no spread enters
abbrev no_spread : Text → List Directive → List (Item Part)
no_spread n ds = []

-- the item of a field
abbrev field_item : Around → (object : Text) → (spreads : ℕ) → Values → (alias : Option Text) → (name : Text) → Arguments → List Directive → Sels → List (Item Part)
field_item w T k env a n xs ds s =
    asked (record { ask = ask_of w.project.defs T env a n xs ds; part = record { spreads = k; environment = env; selections = s } }) ∷ []

-- ---- fields that were added

bare_items : (w : Around) (T : Text) (k : ℕ) (env : Values) (enter : Text → List Directive → List (Item Part)) (s : Sels) → IsBare s
    → AlikeItems w (collect_with enter w.project.defs T k env s) (collect_with no_spread w.project.defs T zero w.own s)
bare_items w T k env enter sels.end h = tt
bare_items w T k env enter (sels.spread n ds rest) h = absurd h
bare_items w T k env enter (sels.field a n xs ds s rest) h =
    zip_kept (AlikeItem w) (is_left_out env ds) (is_left_out w.own ds) (ap (is_left_out env) h.1 ∙ sym (ap (is_left_out w.own) h.1))
    (field_item w T k env a n xs ds s) (field_item w T zero w.own a n xs ds s) (collect_with enter w.project.defs T k env rest) (collect_with no_spread w.project.defs T zero w.own rest) (
      record {
        ask = record { response = refl; name = refl; arguments = ap (arguments_in_environment env) h.0 ∙ sym (ap (arguments_in_environment w.own) h.0); form = refl };
        below = inr (record { bare = h.2; same = refl; environment = refl; spreads = refl });
      },
      tt,
    )
    (bare_items w T k env enter rest h.3)
bare_items w T k env enter (sels.inline o ds s rest) h =
    zip_kept (AlikeItem w) (is_left_out env ds) (is_left_out w.own ds) (ap (is_left_out env) h.0 ∙ sym (ap (is_left_out w.own) h.0))
    (cond (applies w.project.defs o T) (collect_with enter w.project.defs T k env s) []) (cond (applies w.project.defs o T) (collect_with no_spread w.project.defs T zero w.own s) [])
    (collect_with enter w.project.defs T k env rest) (collect_with no_spread w.project.defs T zero w.own rest)
    (zip_where (AlikeItem w) (applies w.project.defs o T) (collect_with enter w.project.defs T k env s) (collect_with no_spread w.project.defs T zero w.own s) (bare_items w T k env enter s h.1))
    (bare_items w T k env enter rest h.2)

-- ---- fields that are written

alias_back : (r n : Text) → r ≡ response_key (alias_of r n) n
alias_back r n = at (bytes_eq r n) refl
  where
    at : (b : Bool) → bytes_eq r n ≡ b → r ≡ response_key (cond b None (Some r)) n
    at true e = (bytes_eq-Decides r n).0 e
    at false e = refl

module _ (w : Around) (T : Text) (k : ℕ) (enter : (from : ℕ) → Text → List Directive → Nodes → Nodes) (gather : Text → List Directive → List (Item Part))
    (scope : Scope) (env : Values) (means : Means w.own scope env)
    (whole : (from : ℕ) (around : Option Text) (s : Sels) → expansion k w.project scope from around s ≡ expansion_with enter w.project scope from around s)
    (entered : (from : ℕ) (n : Text) (ds : List Directive) (rest : Nodes) (more : List (Item Part))
    → AlikeItems w more (collect_with no_spread w.project.defs T zero w.own (printed_selections rest))
    → AlikeItems w (cond (is_left_out env ds) [] (gather n ds) ++ more) (collect_with no_spread w.project.defs T zero w.own (printed_selections (enter from n ds rest)))) where
  abbrev from_source : Sels → List (Item Part)
  from_source s = collect_with gather w.project.defs T k env s

  abbrev from_text : Nodes → List (Item Part)
  from_text s = collect_with no_spread w.project.defs T zero w.own (printed_selections s)

  items_with : (from : ℕ) (around : Option Text) (s : Sels) → AlikeItems w (from_source (with_additions w.project.defs w.place around s)) (from_text (expansion_with enter w.project scope from around s))
  items_with from around sels.end = tt
  items_with from around (sels.field a n xs ds s rest) =
      let inner : ℕ = from + head_nodes a + arguments_nodes xs + directives_nodes ds in
      let under : Option Text = below w.project.defs around n in
      let of : Text = base_of (type_or (field_type w.project.defs around n)) in
      let is_connection : Bool = is_some (connection_among ds) in
      let new : Nodes = additions w.project.defs is_connection of s (w.project.place from) in
      let old : Nodes = additions w.project.defs is_connection of s w.place in
      let more : Nodes = expansion_with enter w.project scope (inner + selections_nodes s) around rest in
      zip_kept (AlikeItem w) (is_left_out env ds) (is_left_out w.own (printed_directives (expansions.printed_directives scope ds)))
      (sym (left-printed w.own env scope means is_printed not_printed ds))
      (field_item w T k env a n xs ds (sels_append (with_additions w.project.defs w.place under s) (printed_selections old)))
      (field_item w T zero w.own (alias_of (response_key a n) n) n (printed_arguments (substitute_in scope xs)) (printed_directives (expansions.printed_directives scope ds))
      (printed_selections (nodes_append (expansion_with enter w.project scope inner under s) new)))
      (from_source (with_additions w.project.defs w.place around rest)) (from_text more) (
        record {
          ask = record {
            response = alias_back (response_key a n) n;
            name = refl;
            arguments = sym (arguments-printed w.own env scope means xs);
            form = refl;
          };
          below = inl (record {
            scope = scope;
            means = means;
            from = inner;
            around = under;
            written = s;
            text_added = new;
            source_added = old;
            added = all_added w.project.defs (w.project.place from) w.place is_connection of s;
            source = refl;
            text = ap (λ ns. printed_selections (nodes_append ns new)) (sym (whole inner under s));
            environment = refl;
            spreads = refl;
          });
        },
        tt,
      )
      (items_with (inner + selections_nodes s) around rest)
  items_with from around (sels.spread n ds rest) =
      entered from n ds (expansion_with enter w.project scope (from + 2 + directives_nodes ds) around rest) (from_source (with_additions w.project.defs w.place around rest))
      (items_with (from + 2 + directives_nodes ds) around rest)
  items_with from around (sels.inline o ds s rest) =
      let inner : ℕ = from + 1 + optional_name_nodes o + directives_nodes ds in
      let under : Option Text = condition_or around o in
      let inside : Nodes = expansion_with enter w.project scope inner under s in
      let more : Nodes = expansion_with enter w.project scope (inner + selections_nodes s) around rest in
      zip_kept (AlikeItem w) (is_left_out env ds) (is_left_out w.own (printed_directives (expansions.printed_directives scope ds)))
      (sym (left-printed w.own env scope means is_printed not_printed ds))
      (cond (applies w.project.defs o T) (from_source (with_additions w.project.defs w.place under s)) []) (cond (applies w.project.defs o T) (from_text inside) [])
      (from_source (with_additions w.project.defs w.place around rest)) (from_text more)
      (zip_where (AlikeItem w) (applies w.project.defs o T) (from_source (with_additions w.project.defs w.place under s)) (from_text inside) (items_with inner under s))
      (items_with (inner + selections_nodes s) around rest)

-- a spread that is not entered gives nothing
none_entered : (w : Around) (b : Bool) (more : List (Item Part)) (text : List (Item Part)) → AlikeItems w more text → AlikeItems w (cond b [] [] ++ more) text
none_entered w true more text h = h
none_entered w false more text h = h

-- what the selections of a fragment that is spread become
abbrev nodes_inside : (spreads : ℕ) → Around → Scope → List Directive → FragmentAt → Nodes
nodes_inside k w scope ds f = expansion k w.project (scope_at_spread scope ds f) (selections_from f) (Some f.on.name) f.selections

-- what the printed selections give
abbrev text_items : Around → (object : Text) → Nodes → List (Item Part)
text_items w T s = collect_in zero (setting w) T w.own (printed_selections s)

entered_alike : (w : Around) (T : Text) (k : ℕ) (scope : Scope) (env : Values) → Means w.own scope env → (ds : List Directive)
    → ((f : FragmentAt) → AlikeItems w (collect_in k (setting w) T (environment_inside w.own env ds f) (fragment_selections w f)) (text_items w T (nodes_inside k w scope ds f)))
    → (from : ℕ) (rest : Nodes) (more : List (Item Part)) → AlikeItems w more (text_items w T rest) → (f : Option FragmentAt)
    → AlikeItems w (cond (is_left_out env ds) [] (items_of_spread k w T env ds f) ++ more) (text_items w T (enter_with (nodes_inside k w scope ds) w.project scope from f ds rest))
entered_alike w T k scope env means ds deeper from rest more h None = none_entered w (is_left_out env ds) more _ h
entered_alike w T k scope env means ds deeper from rest more h (Some f) =
    let there : List (Item Part) = collect_in k (setting w) T (environment_inside w.own env ds f) (fragment_selections w f) in
    let here : List (Item Part) = text_items w T (nodes_inside k w scope ds f) in
    zip_kept (AlikeItem w) (is_left_out env ds) (is_left_out w.own (printed_directives (printed_conditions scope ds)))
    (sym (left-printed w.own env scope means is_condition (λ n e. e) ds))
    (cond (applies w.project.defs (Some f.on.name) T) there []) (cond (applies w.project.defs (Some f.on.name) T) here [])
    more (text_items w T rest)
    (zip_where (AlikeItem w) (applies w.project.defs (Some f.on.name) T) there here (deeper f)) h

items : (w : Around) (T : Text) (k : ℕ) (scope : Scope) (env : Values) → Means w.own scope env → (from : ℕ) (around : Option Text) (s : Sels)
    → AlikeItems w (collect_in k (setting w) T env (with_additions w.project.defs w.place around s)) (text_items w T (expansion k w.project scope from around s))
items w T zero scope env means =
    items_with w T zero (λ from n ds rest. rest) (items_at_spread zero w T env) scope env means (λ from around s. refl)
    (λ from n ds rest more h. none_entered w (is_left_out env ds) more _ h)
items w T (suc k) scope env means =
    items_with w T (suc k) (λ from n ds rest. enter_with (nodes_inside k w scope ds) w.project scope from (fragment_named w.project.fragments n) ds rest) (items_at_spread (suc k) w T env)
    scope env means (λ from around s. refl)
    (λ from n ds rest more h. entered_alike w T k scope env means ds
    (λ f. items w T k (scope_at_spread scope ds f) (environment_inside w.own env ds f) (means_inside w.own env scope means ds f) (selections_from f) (Some f.on.name) f.selections)
    from rest more h (fragment_named w.project.fragments n))

-- ---- parts

bare_collected : (w : Around) (T : Text) (k : ℕ) (env : Values) (s : Sels) → IsBare s
    → AlikeItems w (collect_in k (setting w) T env s) (collect_in zero (setting w) T w.own s)
bare_collected w T zero env s h = bare_items w T zero env (items_at_spread zero w T env) s h
bare_collected w T (suc k) env s h = bare_items w T (suc k) env (items_at_spread (suc k) w T env) s h

-- items that are alike, by what they are equal to
alike_as : (w : Around) (xs us ys vs : List (Item Part)) → xs ≡ us → ys ≡ vs → AlikeItems w us vs → AlikeItems w xs ys
alike_as w xs us ys vs e f h = subst (λ zs. AlikeItems w zs ys) (sym e) (subst (λ zs. AlikeItems w us zs) (sym f) h)

-- what is collected of a part that is in the text
text_collected : (w : Around) (T : Text) (g : Part) (s : Sels) → g.environment ≡ w.own → g.spreads ≡ zero → g.selections ≡ s
    → collect (setting w) T g ≡ collect_in zero (setting w) T w.own s
text_collected w T g s e z is = λ i. collect_in (z i) (setting w) T (e i) (is i)

part_items : (w : Around) (T : Text) (f g : Part) → Comes w f g → AlikeItems w (collect (setting w) T f) (collect (setting w) T g)
part_items w T f g (inl h) =
    let written : Sels = with_additions w.project.defs w.place h.around h.written in
    let whole : Nodes = expansion f.spreads w.project h.scope h.from h.around h.written in
    let added : Sels = printed_selections h.source_added in
    let first : List (Item Part) = collect_in f.spreads (setting w) T f.environment written in
    let then : List (Item Part) = collect_in f.spreads (setting w) T f.environment added in
    let begin : List (Item Part) = text_items w T whole in
    let last : List (Item Part) = collect_in zero (setting w) T w.own added in
    alike_as w (collect (setting w) T f) (first ++ then) (collect (setting w) T g) (begin ++ last)
    (ap (collect_in f.spreads (setting w) T f.environment) h.source ∙ in-append f.spreads w T f.environment written added)
    (text_collected w T g (sels_append (printed_selections whole) added) h.environment h.spreads
    (h.text ∙ printed-append whole h.text_added ∙ ap (sels_append (printed_selections whole)) h.added.same)
    ∙ in-append zero w T w.own (printed_selections whole) added)
    (zip_append (AlikeItem w) first begin then last
    (items w T f.spreads h.scope f.environment h.means h.from h.around h.written)
    (bare_collected w T f.spreads f.environment added h.added.bare))
part_items w T f g (inr h) =
    alike_as w (collect (setting w) T f) (collect_in f.spreads (setting w) T f.environment g.selections)
    (collect (setting w) T g) (collect_in zero (setting w) T w.own g.selections)
    (ap (collect_in f.spreads (setting w) T f.environment) h.same)
    (text_collected w T g g.selections h.environment h.spreads refl)
    (bare_collected w T f.spreads f.environment g.selections h.bare)

parts_items : (w : Around) (T : Text) (fs gs : List Part) → AllZip (Comes w) fs gs → AlikeItems w (collect_all (collect (setting w)) T fs) (collect_all (collect (setting w)) T gs)
parts_items w T [] [] h = tt
parts_items w T [] (g ∷ gs) h = absurd h
parts_items w T (f ∷ fs) [] h = absurd h
parts_items w T (f ∷ fs) (g ∷ gs) h =
    zip_append (AlikeItem w) (collect (setting w) T f) (collect (setting w) T g) (collect_all (collect (setting w)) T fs) (collect_all (collect (setting w)) T gs)
    (part_items w T f g h.0) (parts_items w T fs gs h.1)

-- ---- groups

abbrev Grouped : Around → Group Part → Group Part → Type 0
Grouped w g h = AllZip (Alike w) (members g) (members h)

asked_alike : (w : Around) (xs ys : List (Item Part)) → AlikeItems w xs ys → AllZip (Alike w) (asked_of xs) (asked_of ys)
asked_alike w [] [] h = tt
asked_alike w [] (y ∷ ys) h = absurd h
asked_alike w (x ∷ xs) [] h = absurd h
asked_alike w (asked a ∷ xs) (asked b ∷ ys) h = (h.0, asked_alike w xs ys h.1)
asked_alike w (asked a ∷ xs) (pointed q ∷ ys) h = absurd h.0
asked_alike w (pointed p ∷ xs) (y ∷ ys) h = absurd h.0

no_pointers : (w : Around) (xs ys : List (Item Part)) → AlikeItems w xs ys → (pointers xs ≡ []) × (pointers ys ≡ [])
no_pointers w [] [] h = (refl, refl)
no_pointers w [] (y ∷ ys) h = absurd h
no_pointers w (x ∷ xs) [] h = absurd h
no_pointers w (asked a ∷ xs) (asked b ∷ ys) h = no_pointers w xs ys h.1
no_pointers w (asked a ∷ xs) (pointed q ∷ ys) h = absurd h.0
no_pointers w (pointed p ∷ xs) (y ∷ ys) h = absurd h.0

with_asked-same : (w : Around) (a b : Asked Part) → Alike w a b → (gs hs : List (Group Part)) → AllZip (Grouped w) gs hs → AllZip (Grouped w) (with_asked gs a) (with_asked hs b)
with_asked-same w a b i [] [] h = ((i, tt), tt)
with_asked-same w a b i [] (k ∷ ks) h = absurd h
with_asked-same w a b i (g ∷ gs) [] h = absurd h
with_asked-same w a b i (g ∷ gs) (k ∷ ks) h =
    zip_cond (Grouped w) (bytes_eq g.first.ask.response a.ask.response) (bytes_eq k.first.ask.response b.ask.response)
    (λ j. bytes_eq (h.0.0.ask.response j) (i.ask.response j)) _ _ _ _
    ((h.0.0, zip_append (Alike w) g.others k.others (a ∷ []) (b ∷ []) h.0.1 (i, tt)), h.1)
    (h.0, with_asked-same w a b i gs ks h.1)

grouped-same : (w : Around) (xs ys : List (Asked Part)) → AllZip (Alike w) xs ys → (gs hs : List (Group Part)) → AllZip (Grouped w) gs hs
    → AllZip (Grouped w) (grouped_onto gs xs) (grouped_onto hs ys)
grouped-same w [] [] h gs hs all = all
grouped-same w [] (y ∷ ys) h gs hs all = absurd h
grouped-same w (x ∷ xs) [] h gs hs all = absurd h
grouped-same w (x ∷ xs) (y ∷ ys) h gs hs all = grouped-same w xs ys h.1 (with_asked gs x) (with_asked hs y) (with_asked-same w x y h.0 gs hs all)

same_asks : (w : Around) (xs ys : List (Asked Part)) → AllZip (Alike w) xs ys → AllZip SameAsk (map (λ (a : Asked Part). a.ask) xs) (map (λ (a : Asked Part). a.ask) ys)
same_asks w [] [] h = tt
same_asks w [] (y ∷ ys) h = absurd h
same_asks w (x ∷ xs) [] h = absurd h
same_asks w (x ∷ xs) (y ∷ ys) h = (h.0.ask, same_asks w xs ys h.1)

same_parts : (w : Around) (xs ys : List (Asked Part)) → AllZip (Alike w) xs ys → AllZip (Comes w) (map (λ (a : Asked Part). a.part) xs) (map (λ (a : Asked Part). a.part) ys)
same_parts w [] [] h = tt
same_parts w [] (y ∷ ys) h = absurd h
same_parts w (x ∷ xs) [] h = absurd h
same_parts w (x ∷ xs) (y ∷ ys) h = (h.0.below, same_parts w xs ys h.1)

-- where what comes from parts is related
same_groups : (w : Around) (r : List Part → List Part → Type 0) → ((fs gs : List Part) → AllZip (Comes w) fs gs → r fs gs) → (gs hs : List (Group Part)) → AllZip (Grouped w) gs hs
    → AllZip (SameGroup r) gs hs
same_groups w r deeper [] [] h = tt
same_groups w r deeper [] (k ∷ ks) h = absurd h
same_groups w r deeper (g ∷ gs) [] h = absurd h
same_groups w r deeper (g ∷ gs) (k ∷ ks) h =
    let group : SameGroup r g k = record {
      fields = same_asks w (members g) (members k) h.0;
      below = deeper (parts g) (parts k) (same_parts w (members g) (members k) h.0);
    } in
    (group, same_groups w r deeper gs ks h.1)

collect_the_same : (w : Around) (n : ℕ) (fs gs : List Part) → AllZip (Comes w) fs gs → CollectTheSame n (setting w) fs gs
collect_the_same w zero fs gs h = tt
collect_the_same w (suc n) fs gs h = λ T.
    let xs : List (Item Part) = collect_all (collect (setting w)) T fs in
    let ys : List (Item Part) = collect_all (collect (setting w)) T gs in
    let same : AlikeItems w xs ys = parts_items w T fs gs h in
    record {
      groups =
          same_groups w (CollectTheSame n (setting w)) (λ us vs k. collect_the_same w n us vs k) (groups_of xs) (groups_of ys)
          (grouped-same w (asked_of xs) (asked_of ys) (asked_alike w xs ys same) [] [] tt);
      pointers = no_pointers w xs ys same;
    }

pub nodes_append-end : (s : Nodes) → nodes_append s end ≡ s
nodes_append-end end = refl
nodes_append-end (field r n xs ds c of s p rest) = ap (field r n xs ds c of s p) (nodes_append-end rest)
nodes_append-end (inline o ds s p rest) = ap (inline o ds s p) (nodes_append-end rest)

pub sels_append-end : (s : Sels) → sels_append s sels.end ≡ s
sels_append-end sels.end = refl
sels_append-end (sels.field a n xs ds s rest) = ap (sels.field a n xs ds s) (sels_append-end rest)
sels_append-end (sels.spread n ds rest) = ap (sels.spread n ds) (sels_append-end rest)
sels_append-end (sels.inline o ds s rest) = ap (sels.inline o ds s) (sels_append-end rest)

pub text_collects_the_same : TextCollectsTheSame
text_collects_the_same p o place own depth =
    collect_the_same (record { project = p; place = place; own = own }) depth _ _ (
      inl (record {
        scope = operation_scope;
        means = λ n. refl;
        from = operation_from o;
        around = root p.defs o.kind;
        written = o.selections;
        text_added = end;
        source_added = end;
        added = nothing_added;
        source = sym (sels_append-end (with_additions p.defs place (root p.defs o.kind) o.selections));
        text = ap printed_selections (sym (nodes_append-end (expansion (spreads_in p) p operation_scope (operation_from o) (root p.defs o.kind) o.selections)));
        environment = refl;
        spreads = refl;
      }),
      tt,
    )
