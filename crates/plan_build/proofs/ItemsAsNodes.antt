-- Selections of documents, with their additions, and their expansion give the same items on an object type, one by one.
use Rattle.std.proofs.Common.{◌≡◌, ℕ, zero, suc, ◌+◌, Bool, true, false, cond, List, [], ◌∷◌, ◌++◌, Option, Some, None, option_map, bytes_eq, refl, sym, ap, ◌∙◌, ◌⊎◌, inl, inr}
use Rattle.std.specs.Prelude.{is_some}
use Rattle.std.proofs.lemmas.Slice.Eq.{bytes_eq-Decides}
use Rattle.std.specs.List.{AllZip}
use Rattle.plan_ir.specs.gql_ast.Sels as sels
use Rattle.plan_ir.specs.gql_ast.Sels.{Sels, sels_append}
use Rattle.plan_ir.specs.gql_ast.declared.directive.Directive.{Directive}
use Rattle.plan_ir.specs.gql_plain.declared.ids.Conn.{Conn}
use Rattle.plan_build.proofs.BareNodes.{AreBare, all_bare}
use Rattle.plan_build.proofs.Substituted.{arguments-substituted, left-substituted}
use Rattle.plan_build.specs.NodesMeaning.{Set, ask_of_node, collect_nodes_in}
use Rattle.plan_ir.specs.Additions.{additions, type_or}
use Rattle.plan_ir.specs.Expansion as expansions
use Rattle.plan_ir.specs.Expansion.{enter_with, expansion, expansion_with, is_condition, is_printed, printed_conditions, response_key, selections_from}
use Rattle.plan_ir.specs.Nodes.{Nodes, end, field, inline, nodes_append}
use Rattle.plan_ir.specs.Substitution.{Arguments, Scope, scope_at_spread, substitute_in}
use Rattle.relay_model.proofs.plan_collect_laws.AddedFields.{all_added}
use Rattle.relay_model.proofs.plan_collect_laws.Collects.{not_printed}
use Rattle.relay_model.proofs.plan_collect_laws.Evaluating.{Means, means_inside}
use Rattle.relay_model.proofs.plan_collect_laws.WholeForm.{Around, fragment_selections, items_at_spread, items_of_spread, setting, zip_kept, zip_where}
use Rattle.relay_model.specs.plan_collect.Collecting.{applies, environment_inside, is_left_out, with_additions}
use Rattle.relay_model.specs.plan_collect.Printed.{alias_of, printed_arguments, printed_directives, printed_selections}
use Rattle.plan_ir.specs.relay_marks.Connections.{connection_among}
use Rattle.relay_model.specs.Collection.{Part, ask_of, collect_in, collect_with, connection_asked, form_on}
use Rattle.plan_ir.specs.schema_tables.Types.{Text, base_of}
use Rattle.plan_ir.specs.schema_trees.Located.{directives_nodes}
use Rattle.plan_ir.specs.schema_types.Environments.{Values, arguments_in_environment}
use Rattle.plan_ir.specs.schema_types.NameRules.{fragment_named}
use Rattle.plan_ir.specs.schema_types.Sites.{FragmentAt, arguments_nodes, below, condition_or, field_type, head_nodes, optional_name_nodes, selections_nodes}
use Rattle.plan_ir.proofs.store_model_laws.SameItems.{AlikeItem}
use Rattle.plan_ir.specs.store_model.Items.{Item, asked}

-- what the selections of a fragment that is spread become
abbrev nodes_inside : (spreads : ℕ) → Around → Scope → List Directive → FragmentAt → Nodes
nodes_inside k w scope ds f = expansion k w.project (scope_at_spread scope ds f) (selections_from f) (Some f.on.name) f.selections

-- selections with additions, and the nodes that they become
pub record Expands (w : Around) (f : Part) (g : Set) : Type 0 where
  pub scope : Scope
  pub means : Means w.own scope f.environment
  pub from : ℕ
  pub around : Option Text
  pub written : Sels
  pub added : Nodes
  pub bare : AreBare added
  pub source : f.selections ≡ sels_append (with_additions w.project.defs w.place around written) (printed_selections added)
  pub nodes : g.nodes ≡ nodes_append (expansion f.spreads w.project scope from around written) added
  pub environment : g.environment ≡ w.own

-- fields that were added
pub record Bare (w : Around) (f : Part) (g : Set) : Type 0 where
  pub bare : AreBare g.nodes
  pub source : f.selections ≡ printed_selections g.nodes
  pub environment : g.environment ≡ w.own

-- selections, and the nodes that come from them
abbrev pub Comes : Around → Part → Set → Type 0
Comes w f g = Expands w f g ⊎ Bare w f g

-- the same items, one by one, with nodes that come from the selections below
abbrev pub AlikeItems : Around → List (Item Part) → List (Item Set) → Type 0
AlikeItems w xs ys = AllZip (AlikeItem (Comes w)) xs ys

-- the item of a field of the documents
abbrev written_field : Around → (object : Text) → (spreads : ℕ) → Values → (alias : Option Text) → (name : Text) → Arguments → List Directive → Sels → List (Item Part)
written_field w T k env a n xs ds s =
    asked (record { ask = ask_of w.project.defs T env a n xs ds; part = record { spreads = k; environment = env; selections = s } }) ∷ []

-- the item of a field of the expansion
abbrev expanded_field : Around → (object : Text) → (response name : Text) → Arguments → Option Conn → Nodes → List (Item Set)
expanded_field w T r n xs c s =
    asked (record { ask = ask_of_node w.project.defs T w.own r n xs c; part = record { environment = w.own; nodes = s } }) ∷ []

-- ---- fields that were added

alias_back : (r n : Text) → response_key (alias_of r n) n ≡ r
alias_back r n = at (bytes_eq r n) refl
  where
    at : (b : Bool) → bytes_eq r n ≡ b → response_key (cond b None (Some r)) n ≡ r
    at true e = sym ((bytes_eq-Decides r n).0 e)
    at false e = refl

pub bare_items : (w : Around) (T : Text) (k : ℕ) (env : Values) (enter : Text → List Directive → List (Item Part)) (s : Nodes) → AreBare s
    → AlikeItems w (collect_with enter w.project.defs T k env (printed_selections s)) (collect_nodes_in w.project.defs T w.own s)
bare_items w T k env enter end h = tt
bare_items w T k env enter (field r n xs ds c of s p rest) h =
    zip_kept (AlikeItem (Comes w)) (is_left_out env (printed_directives ds)) (is_left_out w.own ds)
    (ap (λ es. is_left_out env (printed_directives es)) h.1 ∙ sym (ap (is_left_out w.own) h.1))
    (written_field w T k env (alias_of r n) n (printed_arguments xs) (printed_directives ds) (printed_selections s)) (expanded_field w T r n xs c s)
    (collect_with enter w.project.defs T k env (printed_selections rest)) (collect_nodes_in w.project.defs T w.own rest) (
      record {
        ask = λ i. record {
          response = alias_back r n i;
          name = n;
          arguments = (ap (λ ys. arguments_in_environment env (printed_arguments ys)) h.0 ∙ sym (ap (arguments_in_environment w.own) h.0)) i;
          connection = (ap (λ es. option_map connection_asked (connection_among (printed_directives es))) h.1 ∙ sym (ap (option_map connection_asked) h.2)) i;
          form = form_on w.project.defs T n;
        };
        part = inr (record { bare = h.3; source = refl; environment = refl });
      },
      tt,
    )
    (bare_items w T k env enter rest h.4)
bare_items w T k env enter (inline o ds s p rest) h =
    let there : List (Item Part) = collect_with enter w.project.defs T k env (printed_selections s) in
    let here : List (Item Set) = collect_nodes_in w.project.defs T w.own s in
    zip_kept (AlikeItem (Comes w)) (is_left_out env (printed_directives ds)) (is_left_out w.own ds)
    (ap (λ es. is_left_out env (printed_directives es)) h.0 ∙ sym (ap (is_left_out w.own) h.0))
    (cond (applies w.project.defs o T) there []) (cond (applies w.project.defs o T) here [])
    (collect_with enter w.project.defs T k env (printed_selections rest)) (collect_nodes_in w.project.defs T w.own rest)
    (zip_where (AlikeItem (Comes w)) (applies w.project.defs o T) there here (bare_items w T k env enter s h.1))
    (bare_items w T k env enter rest h.2)

-- ---- fields that are written

module _ (w : Around) (T : Text) (k : ℕ) (enter : (from : ℕ) → Text → List Directive → Nodes → Nodes) (gather : Text → List Directive → List (Item Part))
    (scope : Scope) (env : Values) (means : Means w.own scope env)
    (whole : (from : ℕ) (around : Option Text) (s : Sels) → expansion k w.project scope from around s ≡ expansion_with enter w.project scope from around s)
    (entered : (from : ℕ) (n : Text) (ds : List Directive) (rest : Nodes) (more : List (Item Part)) → AlikeItems w more (collect_nodes_in w.project.defs T w.own rest)
    → AlikeItems w (cond (is_left_out env ds) [] (gather n ds) ++ more) (collect_nodes_in w.project.defs T w.own (enter from n ds rest))) where
  abbrev from_source : Sels → List (Item Part)
  from_source s = collect_with gather w.project.defs T k env s

  abbrev from_nodes : Nodes → List (Item Set)
  from_nodes s = collect_nodes_in w.project.defs T w.own s

  items_with : (from : ℕ) (around : Option Text) (s : Sels) → AlikeItems w (from_source (with_additions w.project.defs w.place around s)) (from_nodes (expansion_with enter w.project scope from around s))
  items_with from around sels.end = tt
  items_with from around (sels.field a n xs ds s rest) =
      let inner : ℕ = from + head_nodes a + arguments_nodes xs + directives_nodes ds in
      let under : Option Text = below w.project.defs around n in
      let of : Text = base_of (type_or (field_type w.project.defs around n)) in
      let is_connection : Bool = is_some (connection_among ds) in
      let new : Nodes = additions w.project.defs is_connection of s (w.project.place from) in
      let old : Nodes = additions w.project.defs is_connection of s w.place in
      zip_kept (AlikeItem (Comes w)) (is_left_out env ds) (is_left_out w.own (expansions.printed_directives scope ds))
      (sym (left-substituted w.own env scope means is_printed not_printed ds))
      (written_field w T k env a n xs ds (sels_append (with_additions w.project.defs w.place under s) (printed_selections old)))
      (expanded_field w T (response_key a n) n (substitute_in scope xs) (connection_among ds) (nodes_append (expansion_with enter w.project scope inner under s) new))
      (from_source (with_additions w.project.defs w.place around rest)) (from_nodes (expansion_with enter w.project scope (inner + selections_nodes s) around rest)) (
        record {
          ask = λ i. record {
            response = response_key a n;
            name = n;
            arguments = sym (arguments-substituted w.own env scope means xs) i;
            connection = option_map connection_asked (connection_among ds);
            form = form_on w.project.defs T n;
          };
          part = inl (record {
            scope = scope;
            means = means;
            from = inner;
            around = under;
            written = s;
            added = new;
            bare = all_bare w.project.defs (w.project.place from) is_connection of s;
            source = ap (sels_append (with_additions w.project.defs w.place under s)) (sym (all_added w.project.defs (w.project.place from) w.place is_connection of s).same);
            nodes = ap (λ ns. nodes_append ns new) (sym (whole inner under s));
            environment = refl;
          });
        },
        tt,
      )
      (items_with (inner + selections_nodes s) around rest)
  items_with from around (sels.spread n ds rest) =
      entered from n ds (expansion_with enter w.project scope (from + 2 + directives_nodes ds) around rest) (from_source (with_additions w.project.defs w.place around rest))
      (items_with (from + 2 + directives_nodes ds) around rest)
  items_with from around (sels.inline o ds s rest) =
      let inner : ℕ = from + 1 + optional_name_nodes o + directives_nodes ds in
      let under : Option Text = condition_or around o in
      let there : List (Item Part) = from_source (with_additions w.project.defs w.place under s) in
      let here : List (Item Set) = from_nodes (expansion_with enter w.project scope inner under s) in
      zip_kept (AlikeItem (Comes w)) (is_left_out env ds) (is_left_out w.own (expansions.printed_directives scope ds))
      (sym (left-substituted w.own env scope means is_printed not_printed ds))
      (cond (applies w.project.defs o T) there []) (cond (applies w.project.defs o T) here [])
      (from_source (with_additions w.project.defs w.place around rest)) (from_nodes (expansion_with enter w.project scope (inner + selections_nodes s) around rest))
      (zip_where (AlikeItem (Comes w)) (applies w.project.defs o T) there here (items_with inner under s))
      (items_with (inner + selections_nodes s) around rest)

-- a spread that is not entered gives nothing
none_entered : (w : Around) (b : Bool) (more : List (Item Part)) (nodes : List (Item Set)) → AlikeItems w more nodes → AlikeItems w (cond b [] [] ++ more) nodes
none_entered w true more nodes h = h
none_entered w false more nodes h = h

entered_alike : (w : Around) (T : Text) (k : ℕ) (scope : Scope) (env : Values) → Means w.own scope env → (ds : List Directive)
    → ((f : FragmentAt) → AlikeItems w (collect_in k (setting w) T (environment_inside w.own env ds f) (fragment_selections w f)) (collect_nodes_in w.project.defs T w.own (nodes_inside k w scope ds f)))
    → (from : ℕ) (rest : Nodes) (more : List (Item Part)) → AlikeItems w more (collect_nodes_in w.project.defs T w.own rest) → (f : Option FragmentAt)
    → AlikeItems w (cond (is_left_out env ds) [] (items_of_spread k w T env ds f) ++ more)
    (collect_nodes_in w.project.defs T w.own (enter_with (nodes_inside k w scope ds) w.project scope from f ds rest))
entered_alike w T k scope env means ds deeper from rest more h None = none_entered w (is_left_out env ds) more _ h
entered_alike w T k scope env means ds deeper from rest more h (Some f) =
    let there : List (Item Part) = collect_in k (setting w) T (environment_inside w.own env ds f) (fragment_selections w f) in
    let here : List (Item Set) = collect_nodes_in w.project.defs T w.own (nodes_inside k w scope ds f) in
    zip_kept (AlikeItem (Comes w)) (is_left_out env ds) (is_left_out w.own (printed_conditions scope ds))
    (sym (left-substituted w.own env scope means is_condition (λ n e. e) ds))
    (cond (applies w.project.defs (Some f.on.name) T) there []) (cond (applies w.project.defs (Some f.on.name) T) here [])
    more (collect_nodes_in w.project.defs T w.own rest)
    (zip_where (AlikeItem (Comes w)) (applies w.project.defs (Some f.on.name) T) there here (deeper f)) h

pub items : (w : Around) (T : Text) (k : ℕ) (scope : Scope) (env : Values) → Means w.own scope env → (from : ℕ) (around : Option Text) (s : Sels)
    → AlikeItems w (collect_in k (setting w) T env (with_additions w.project.defs w.place around s)) (collect_nodes_in w.project.defs T w.own (expansion k w.project scope from around s))
items w T zero scope env means =
    items_with w T zero (λ from n ds rest. rest) (items_at_spread zero w T env) scope env means (λ from around s. refl)
    (λ from n ds rest more h. none_entered w (is_left_out env ds) more _ h)
items w T (suc k) scope env means =
    items_with w T (suc k) (λ from n ds rest. enter_with (nodes_inside k w scope ds) w.project scope from (fragment_named w.project.fragments n) ds rest) (items_at_spread (suc k) w T env)
    scope env means (λ from around s. refl)
    (λ from n ds rest more h. entered_alike w T k scope env means ds
    (λ f. items w T k (scope_at_spread scope ds f) (environment_inside w.own env ds f) (means_inside w.own env scope means ds f) (selections_from f) (Some f.on.name) f.selections)
    from rest more h (fragment_named w.project.fragments n))
