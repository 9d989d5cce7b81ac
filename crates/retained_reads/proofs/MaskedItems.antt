-- By the masked form, what parts are seen by both forms give is what the selections of documents give, one by one, also in another environment
-- that gives the same to each Name, where other spreads may still be entered, but enough of them.
use Rattle.std.proofs.Common.{◌≡◌, ℕ, zero, suc, cond, List, [], ◌∷◌, length, Option, Some, None, option_map, refl, sym, ap, subst}
use Rattle.std.specs.List.{AllByRecursion, AllZip}
use Rattle.plan_ir.specs.gql_ast.Sels as sels
use Rattle.plan_ir.specs.gql_ast.Sels.{Sels}
use Rattle.plan_ir.specs.gql_ast.declared.directive.Directive.{Directive}
use Rattle.plan_ir.specs.Expansion.{Project, response_key}
use Rattle.plan_ir.specs.Substitution.{Arguments}
use Rattle.plan_project.proofs.SoundNodes.{SoundLocal}
use Rattle.plan_project.proofs.SoundTrees.{SoundArguments, SoundDirectives, SoundSelections}
use Rattle.plan_project.proofs.SpreadChains.{AllSpreads, Bounded}
use Rattle.plan_project.specs.plan_read.Constants.{HaveConstants}
use Rattle.plan_project.proofs.plan_read_laws.Zips.{zip_kept, zip_where}
use Rattle.relay_machine.specs.plan_collect.Collecting.{applies, environment_inside, is_left_out}
use Rattle.plan_ir.specs.relay_marks.Connections.{connection_among}
use Rattle.plan_ir.specs.relay_marks.Locals.{locals_of}
use Rattle.relay_machine.specs.relay_model.Collection.{Part, ask_of, collect, collect_in, collect_with, connection_asked, enter_where, form_on, is_open, part_inside, pointer_to, spread_items}
use Rattle.relay_machine.specs.relay_model.Readings.{masked_setting}
use Rattle.retained_reads.proofs.Agreeing.{Agree, arguments_same, inside_agree, left_same, scope_same}
use Rattle.retained_reads.proofs.Both.{Both, Entered, at_spread, below_field, both_inside, both_pointer, both_spread, both_where, gather_in, gather_masked, gather_with}
use Rattle.plan_ir.specs.schema_tables.Types.{Text, Defs}
use Rattle.plan_ir.specs.schema_types.Environments.{Values}
use Rattle.plan_ir.specs.schema_types.NameRules.{fragment_named}
use Rattle.plan_ir.specs.schema_types.Sites.{FragmentAt, condition_or}
use Rattle.plan_ir.proofs.store_model_laws.ItemReads.{GivesItems}
use Rattle.plan_ir.proofs.store_model_laws.SameItems.{AlikeItem, zip_either}
use Rattle.plan_ir.specs.store_model.Items.{Item, asked, pointed}

-- what is known of a fragment that is found under a name
pub record IsKnown (p : Project) (n : Text) (f : FragmentAt) : Type 0 where
  pub name : f.name.name ≡ n
  pub sound : SoundSelections f.selections
  pub locals : AllByRecursion SoundLocal (locals_of f.directives)
  pub constants : HaveConstants (locals_of f.directives)
  pub bounded : Bounded p.fragments (length p.fragments) f.selections

abbrev pub AreKnown : Project → Type 0
AreKnown p = (n : Text) (f : FragmentAt) → fragment_named p.fragments n ≡ Some f → IsKnown p n f

-- the same selections, all of whose spreads may be entered on both sides, in environments that agree
pub record Follows (p : Project) (x : Both) (f : Part) : Type 0 where
  pub selections : f.selections ≡ x.source
  pub environment : Agree x.environment f.environment
  pub here : Bounded p.fragments x.spreads x.source
  pub there : Bounded p.fragments f.spreads x.source
  pub sound : SoundSelections x.source

ask_same : (defs : Defs) (T : Text) (env other : Values) → Agree env other → (a : Option Text) (n : Text) (xs : Arguments) (ds : List Directive) → SoundArguments xs
    → ask_of defs T env a n xs ds ≡ ask_of defs T other a n xs ds
ask_same defs T env other agree a n xs ds h = ap
    (λ (ys : Values). record {
      response = response_key a n;
      name = n;
      arguments = ys;
      connection = option_map connection_asked (connection_among ds);
      form = form_on defs T n;
    })
    (arguments_same env other agree xs h)

module _ (p : Project) (known : AreKnown p) (own other : Values) (owns : Agree own other) where
  abbrev AlikeItems : List (Item Both) → List (Item Part) → Type 0
  AlikeItems xs ys = AllZip (AlikeItem (Follows p)) xs ys

  -- what a spread gives, where it may be one of so many
  abbrev entered_at : (spreads : ℕ) → (object : Text) → Values → Text → List Directive → List (Item Part)
  entered_at zero T env n ds = []
  entered_at (suc k) T env n ds =
      enter_where (spread_items (masked_setting p other) k (λ q. collect_in k (masked_setting p other) T q.environment q.selections) env ds) p.defs T (fragment_named p.fragments n)

  module _ (T : Text) (k j : ℕ) (env around : Values) (agree : Agree env around) (enter : Entered) (collects : Text → List Directive → List (Item Part)) (P Q : Text → Type 0)
      (here : (s : Sels) → AllSpreads P s → Bounded p.fragments k s) (there : (s : Sels) → AllSpreads Q s → Bounded p.fragments j s)
      (spread : (n : Text) (ds : List Directive) → SoundDirectives ds → P n → Q n → AlikeItems (enter n ds) (collects n ds)) where
    items_with : (over : Option Text) (s : Sels) → AllSpreads P s → AllSpreads Q s → SoundSelections s
        → AlikeItems (gather_with enter p.defs T k env over s) (collect_with collects p.defs T j around s)
    items_with over sels.end a b h = tt
    items_with over (sels.field r n xs ds s rest) a b h =
        zip_kept (AlikeItem (Follows p)) (is_left_out env ds) (is_left_out around ds) (left_same env around agree ds h.3)
        (asked (record { ask = ask_of p.defs T env r n xs ds; part = below_field p.defs k env over n ds s }) ∷ [])
        (asked (record { ask = ask_of p.defs T around r n xs ds; part = record { spreads = j; environment = around; selections = s } }) ∷ [])
        (gather_with enter p.defs T k env over rest) (collect_with collects p.defs T j around rest)
        (record { ask = ask_same p.defs T env around agree r n xs ds h.2; part = record { selections = refl; environment = agree; here = here s a.0; there = there s b.0; sound = h.4 } }, tt)
        (items_with over rest a.1 b.1 h.5)
    items_with over (sels.spread n ds rest) a b h =
        zip_kept (AlikeItem (Follows p)) (is_left_out env ds) (is_left_out around ds) (left_same env around agree ds h.0) (enter n ds) (collects n ds)
        (gather_with enter p.defs T k env over rest) (collect_with collects p.defs T j around rest)
        (spread n ds h.0 a.0 b.0) (items_with over rest a.1 b.1 h.1)
    items_with over (sels.inline o ds s rest) a b h =
        let this : List (Item Both) = gather_with enter p.defs T k env (condition_or over o) s in
        let that : List (Item Part) = collect_with collects p.defs T j around s in
        zip_kept (AlikeItem (Follows p)) (is_left_out env ds) (is_left_out around ds) (left_same env around agree ds h.1) (cond (applies p.defs o T) this []) (cond (applies p.defs o T) that [])
        (gather_with enter p.defs T k env over rest) (collect_with collects p.defs T j around rest)
        (zip_where (AlikeItem (Follows p)) (applies p.defs o T) this that (items_with (condition_or over o) s a.0 b.0 h.3)) (items_with over rest a.1 b.1 h.4)

  abbrev Gives : (k j : ℕ) → Text → Type 0
  Gives k j T = (env around : Values) → Agree env around → (over : Option Text) (s : Sels) → Bounded p.fragments k s → Bounded p.fragments j s → SoundSelections s
      → AlikeItems (gather_in k (masked_setting p own) T env over s) (collect_in j (masked_setting p other) T around s)

  -- a spread whose fragment is found
  abbrev Leads : ℕ → Text → Type 0
  Leads k n = (f : FragmentAt) × (fragment_named p.fragments n ≡ Some f) × Bounded p.fragments k f.selections

  module _ (T : Text) (k j : ℕ) (deeper : Gives k j T) (env around : Values) (agree : Agree env around) (ds : List Directive) (sound : SoundDirectives ds) where
    pointer_alike : (f : FragmentAt) → AllByRecursion SoundLocal (locals_of f.directives) → Follows p (both_inside own k env ds f) (part_inside (masked_setting p other) j around ds f)
        → AlikeItems (pointed (both_pointer (masked_setting p own) k env ds f) ∷ []) (pointer_to (masked_setting p other) j around ds f ∷ [])
    pointer_alike f locals inside =
        (record { fragment = refl; scope = scope_same env around agree ds sound (locals_of f.directives) locals; inline = refl; body = λ e. inside }, tt)

    fragment_alike : (n : Text) (f : FragmentAt) → IsKnown p n f → Bounded p.fragments k f.selections → Bounded p.fragments j f.selections
        → AlikeItems (both_spread (masked_setting p own) k (λ x. gather_in k (masked_setting p own) T x.environment x.around x.source) env ds f)
        (spread_items (masked_setting p other) j (λ q. collect_in j (masked_setting p other) T q.environment q.selections) around ds f)
    fragment_alike n f is a b =
        let inner : Agree (environment_inside own env ds f) (environment_inside other around ds f) = inside_agree own other env around owns agree ds sound f is.locals in
        zip_either (AlikeItem (Follows p)) (is_open ds)
        (gather_in k (masked_setting p own) T (environment_inside own env ds f) (Some f.on.name) f.selections) (pointed (both_pointer (masked_setting p own) k env ds f) ∷ [])
        (collect_in j (masked_setting p other) T (environment_inside other around ds f) f.selections) (pointer_to (masked_setting p other) j around ds f ∷ [])
        (deeper (environment_inside own env ds f) (environment_inside other around ds f) inner (Some f.on.name) f.selections a b is.sound)
        (pointer_alike f is.locals (record { selections = refl; environment = inner; here = a; there = b; sound = is.sound }))

    found_alike : (n : Text) (o : Option FragmentAt) → fragment_named p.fragments n ≡ o → Leads k n → Leads j n
        → AlikeItems (both_where (both_spread (masked_setting p own) k (λ x. gather_in k (masked_setting p own) T x.environment x.around x.source) env ds) p.defs T o)
        (enter_where (spread_items (masked_setting p other) j (λ q. collect_in j (masked_setting p other) T q.environment q.selections) around ds) p.defs T o)
    found_alike n None e a b = tt
    found_alike n (Some f) e a b =
        let mine : a.0 ≡ f = cc (a.1, e) in
        let others : b.0 ≡ f = cc (b.1, e) in
        zip_where (AlikeItem (Follows p)) (applies p.defs (Some f.on.name) T)
        (both_spread (masked_setting p own) k (λ x. gather_in k (masked_setting p own) T x.environment x.around x.source) env ds f)
        (spread_items (masked_setting p other) j (λ q. collect_in j (masked_setting p other) T q.environment q.selections) around ds f)
        (fragment_alike n f (known n f e) (subst (λ (g : FragmentAt). Bounded p.fragments k g.selections) mine a.2) (subst (λ (g : FragmentAt). Bounded p.fragments j g.selections) others b.2))

  items : (k j : ℕ) (T : Text) → Gives k j T
  items zero zero T env around agree over s a b h =
      items_with T zero zero env around agree (at_spread zero (masked_setting p own) T env) (entered_at zero T around) (λ n. ⊥) (λ n. ⊥) (λ s a. a) (λ s b. b) (λ n ds d i l. absurd i) over s a b h
  items zero (suc j) T env around agree over s a b h =
      items_with T zero (suc j) env around agree (at_spread zero (masked_setting p own) T env) (entered_at (suc j) T around) (λ n. ⊥) (Leads j) (λ s a. a) (λ s b. b) (λ n ds d i l. absurd i) over s a b h
  items (suc k) zero T env around agree over s a b h =
      items_with T (suc k) zero env around agree (at_spread (suc k) (masked_setting p own) T env) (entered_at zero T around) (Leads k) (λ n. ⊥) (λ s a. a) (λ s b. b) (λ n ds d i l. absurd l) over s a b h
  items (suc k) (suc j) T env around agree over s a b h =
      items_with T (suc k) (suc j) env around agree (at_spread (suc k) (masked_setting p own) T env) (entered_at (suc j) T around) (Leads k) (Leads j) (λ s a. a) (λ s b. b)
      (λ n ds d i l. found_alike T k j (items k j T) env around agree ds d n (fragment_named p.fragments n) refl i l) over s a b h

  pub masked_items : GivesItems (gather_masked p own) (collect (masked_setting p other)) (Follows p) (Follows p)
  masked_items T x f h =
      subst (λ s. AlikeItems (gather_masked p own T x) (collect_in f.spreads (masked_setting p other) T f.environment s)) (sym h.selections)
      (items x.spreads f.spreads T x.environment f.environment h.environment x.around x.source h.here h.there h.sound)
