-- By the whole form, what parts are seen by both forms give is what the selections with their additions give, one by one.
use Rattle.std.proofs.Common.{◌≡◌, ℕ, zero, suc, cond, List, [], ◌∷◌, ◌++◌, map, Option, Some, None, refl, sym, ap, subst, ◌∙◌, append_assoc}
use Rattle.std.specs.List.{AllZip}
use Rattle.plan_ir.specs.gql_ast.Sels as sels
use Rattle.plan_ir.specs.gql_ast.Sels.{Sels, sels_append}
use Rattle.plan_ir.specs.gql_ast.declared.directive.Directive.{Directive}
use Rattle.plan_ir.specs.Expansion.{Project}
use Rattle.plan_project.proofs.plan_read_laws.Zips.{zip_kept, zip_where}
use Rattle.relay_machine.specs.plan_collect.Collecting.{applies, environment_inside, field_additions, is_left_out, with_additions}
use Rattle.relay_machine.specs.relay_model.Collection.{Part, Setting, ask_of, collect, collect_in, collect_with, enter_where, spread_items}
use Rattle.relay_machine.specs.relay_model.Readings.{no_place}
use Rattle.relay_machine.specs.relay_model.Responses.{whole_setting}
use Rattle.retained_reads.proofs.Both.{Both, Entered, as_part, at_spread, below_field, both_spread, both_where, gather_added, gather_in, gather_whole, gather_with, lifted_item}
use Rattle.plan_ir.specs.schema_tables.Types.{Text, Defs}
use Rattle.plan_ir.specs.schema_types.Environments.{Values}
use Rattle.plan_ir.specs.schema_types.NameRules.{fragment_named}
use Rattle.plan_ir.specs.schema_types.Sites.{FragmentAt, below, condition_or}
use Rattle.plan_ir.proofs.store_model_laws.ItemReads.{GivesItems}
use Rattle.plan_ir.proofs.store_model_laws.SameItems.{AlikeItem, zip_append}
use Rattle.plan_ir.specs.store_model.Items.{Item, asked, pointed}

-- ---- one set behind another

with_append : (enter : Text → List Directive → List (Item Part)) (defs : Defs) (T : Text) (k : ℕ) (env : Values) (s t : Sels)
    → collect_with enter defs T k env (sels_append s t) ≡ collect_with enter defs T k env s ++ collect_with enter defs T k env t
with_append enter defs T k env sels.end t = refl
with_append enter defs T k env (sels.field a n xs ds s rest) t =
    let first : List (Item Part) = cond (is_left_out env ds) [] (asked (record { ask = ask_of defs T env a n xs ds; part = record { spreads = k; environment = env; selections = s } }) ∷ []) in
    ap (λ z. first ++ z) (with_append enter defs T k env rest t)
    ∙ sym (append_assoc first (collect_with enter defs T k env rest) (collect_with enter defs T k env t))
with_append enter defs T k env (sels.spread n ds rest) t =
    let first : List (Item Part) = cond (is_left_out env ds) [] (enter n ds) in
    ap (λ z. first ++ z) (with_append enter defs T k env rest t)
    ∙ sym (append_assoc first (collect_with enter defs T k env rest) (collect_with enter defs T k env t))
with_append enter defs T k env (sels.inline o ds s rest) t =
    let first : List (Item Part) = cond (is_left_out env ds) [] (cond (applies defs o T) (collect_with enter defs T k env s) []) in
    ap (λ z. first ++ z) (with_append enter defs T k env rest t)
    ∙ sym (append_assoc first (collect_with enter defs T k env rest) (collect_with enter defs T k env t))

module _ (p : Project) (own : Values) where
  abbrev w : Setting
  w = whole_setting p no_place own

  -- the part that the whole form sees
  abbrev pub Seen : Part → Both → Type 0
  Seen f x = f ≡ as_part p.defs x

  abbrev AlikeSeen : List (Item Part) → List (Item Both) → Type 0
  AlikeSeen xs ys = AllZip (AlikeItem Seen) xs ys

  -- what a spread gives, where it may be one of so many
  abbrev entered_at : (spreads : ℕ) → (object : Text) → Values → Text → List Directive → List (Item Part)
  entered_at zero T env n ds = []
  entered_at (suc k) T env n ds = enter_where (spread_items w k (λ q. collect_in k w T q.environment q.selections) env ds) p.defs T (fragment_named p.fragments n)

  in_append : (k : ℕ) (T : Text) (env : Values) (s t : Sels) → collect_in k w T env (sels_append s t) ≡ collect_in k w T env s ++ collect_in k w T env t
  in_append zero T env s t = with_append (entered_at zero T env) p.defs T zero env s t
  in_append (suc k) T env s t = with_append (entered_at (suc k) T env) p.defs T (suc k) env s t

  module _ (T : Text) (k : ℕ) (env : Values) (collects : Text → List Directive → List (Item Part)) (enter : Entered)
      (spread : (n : Text) (ds : List Directive) → AlikeSeen (collects n ds) (enter n ds)) where
    items_with : (around : Option Text) (s : Sels) → AlikeSeen (collect_with collects p.defs T k env (with_additions p.defs no_place around s)) (gather_with enter p.defs T k env around s)
    items_with around sels.end = tt
    items_with around (sels.field a n xs ds s rest) =
        let inner : Sels = sels_append (with_additions p.defs no_place (below p.defs around n) s) (field_additions p.defs around n ds s no_place) in
        zip_kept (AlikeItem Seen) (is_left_out env ds) (is_left_out env ds) refl
        (asked (record { ask = ask_of p.defs T env a n xs ds; part = record { spreads = k; environment = env; selections = inner } }) ∷ [])
        (asked (record { ask = ask_of p.defs T env a n xs ds; part = below_field p.defs k env around n ds s }) ∷ [])
        (collect_with collects p.defs T k env (with_additions p.defs no_place around rest)) (gather_with enter p.defs T k env around rest)
        (record { ask = refl; part = refl }, tt) (items_with around rest)
    items_with around (sels.spread n ds rest) =
        zip_kept (AlikeItem Seen) (is_left_out env ds) (is_left_out env ds) refl (collects n ds) (enter n ds)
        (collect_with collects p.defs T k env (with_additions p.defs no_place around rest)) (gather_with enter p.defs T k env around rest)
        (spread n ds) (items_with around rest)
    items_with around (sels.inline o ds s rest) =
        let there : List (Item Part) = collect_with collects p.defs T k env (with_additions p.defs no_place (condition_or around o) s) in
        let here : List (Item Both) = gather_with enter p.defs T k env (condition_or around o) s in
        zip_kept (AlikeItem Seen) (is_left_out env ds) (is_left_out env ds) refl (cond (applies p.defs o T) there []) (cond (applies p.defs o T) here [])
        (collect_with collects p.defs T k env (with_additions p.defs no_place around rest)) (gather_with enter p.defs T k env around rest)
        (zip_where (AlikeItem Seen) (applies p.defs o T) there here (items_with (condition_or around o) s)) (items_with around rest)

  module _ (T : Text) (k : ℕ) (env : Values) (deeper : (env : Values) (around : Option Text) (s : Sels) → AlikeSeen (collect_in k w T env (with_additions p.defs no_place around s)) (gather_in k w T env around s)) where
    found_alike : (ds : List Directive) (o : Option FragmentAt)
        → AlikeSeen (enter_where (spread_items w k (λ q. collect_in k w T q.environment q.selections) env ds) p.defs T o)
        (both_where (both_spread w k (λ x. gather_in k w T x.environment x.around x.source) env ds) p.defs T o)
    found_alike ds None = tt
    found_alike ds (Some f) =
        let inner : Values = environment_inside own env ds f in
        zip_where (AlikeItem Seen) (applies p.defs (Some f.on.name) T) (collect_in k w T inner (with_additions p.defs no_place (Some f.on.name) f.selections))
        (gather_in k w T inner (Some f.on.name) f.selections) (deeper inner (Some f.on.name) f.selections)

  items : (k : ℕ) (T : Text) (env : Values) (around : Option Text) (s : Sels) → AlikeSeen (collect_in k w T env (with_additions p.defs no_place around s)) (gather_in k w T env around s)
  items zero T env around s = items_with T zero env (entered_at zero T env) (at_spread zero w T env) (λ n ds. tt) around s
  items (suc k) T env around s =
      items_with T (suc k) env (entered_at (suc k) T env) (at_spread (suc k) w T env)
      (λ n ds. found_alike T k env (λ env around s. items k T env around s) ds (fragment_named p.fragments n)) around s

  lifted_alike : (xs : List (Item Part)) → AlikeSeen xs (map lifted_item xs)
  lifted_alike [] = tt
  lifted_alike (asked a ∷ xs) = (record { ask = refl; part = refl }, lifted_alike xs)
  lifted_alike (pointed q ∷ xs) = (record { fragment = refl; scope = refl; inline = refl; body = λ e. refl }, lifted_alike xs)

  part_items : (T : Text) (x : Both) → AlikeSeen (collect w T (as_part p.defs x)) (gather_whole p own T x)
  part_items T x =
      let written : Sels = with_additions p.defs no_place x.around x.source in
      let there : List (Item Part) = collect_in x.spreads w T x.environment written in
      let added : List (Item Part) = collect_in x.spreads w T x.environment x.extra in
      subst (λ us. AlikeSeen us (gather_whole p own T x)) (sym (in_append x.spreads T x.environment written x.extra))
      (zip_append (AlikeItem Seen) there (gather_in x.spreads w T x.environment x.around x.source) added (gather_added p own T x)
      (items x.spreads T x.environment x.around x.source) (lifted_alike added))

  pub whole_items : GivesItems (collect w) (gather_whole p own) Seen Seen
  whole_items T f x h = subst (λ g. AlikeSeen (collect w T g) (gather_whole p own T x)) (sym h) (part_items T x)
