-- Each field that the masked form gives is one of the whole form, and so is each field that a pointer's body gives.
use Rattle.std.proofs.Common.{◌≡◌, ℕ, zero, suc, ◌+◌, ◌≤◌, Bool, true, false, cond, List, [], ◌∷◌, ◌++◌, map, Option, Some, None, refl, sym, ap, subst, ◌∙◌, arith, inl}
use Rattle.std.proofs.lemmas.List.{append-nil}
use Rattle.plan_ir.specs.gql_ast.Sels as sels
use Rattle.plan_ir.specs.gql_ast.Sels.{Sels}
use Rattle.plan_ir.specs.gql_ast.declared.directive.Directive.{Directive}
use Rattle.plan_project.proofs.plan_build_laws.PartDepths.{as_deep, left_below, less_below, right_below}
use Rattle.plan_ir.specs.Expansion.{Project}
use Rattle.plan_project.proofs.SoundTrees.{SoundSelections}
use Rattle.plan_project.proofs.SpreadChains.{AllSpreads, Bounded}
use Rattle.relay_machine.specs.plan_collect.Collecting.{applies, environment_inside, is_left_out}
use Rattle.relay_machine.specs.relay_model.Collection.{ask_of, collect_in, is_open}
use Rattle.relay_machine.specs.relay_model.Readings.{depth_inside, depth_of, depth_with, masked_setting, no_place, shadowed_by, with_marked}
use Rattle.relay_machine.specs.relay_model.Responses.{whole_setting}
use Rattle.retained_reads.proofs.Agreeing.{Agree}
use Rattle.retained_reads.proofs.Both.{Both, Entered, at_spread, below_field, both_inside, both_pointer, both_spread, both_where, gather_added, gather_in, gather_masked, gather_whole, gather_with, lifted_item}
use Rattle.retained_reads.proofs.Marked.{alone_agrees}
use Rattle.retained_reads.proofs.MaskedItems.{AreKnown, IsKnown}
use Rattle.plan_ir.specs.schema_tables.Types.{Text}
use Rattle.plan_ir.specs.schema_types.Environments.{Values}
use Rattle.plan_ir.specs.schema_types.NameRules.{fragment_named}
use Rattle.plan_ir.specs.schema_types.Sites.{FragmentAt, condition_or}
use Rattle.plan_ir.proofs.store_model_laws.Least.{Each, each_append, each_so}
use Rattle.plan_ir.proofs.store_model_laws.Seated.{among_left, among_right, asked_append}
use Rattle.plan_ir.specs.store_model.Alike.{Among}
use Rattle.plan_ir.specs.store_model.Items.{Asked, Item, Pointer, asked, pointed, asked_of}
use Rattle.plan_ir.specs.store_model.Retention.{Covered, Covers}

-- ---- numbers

deep_less : (a n : ℕ) → a + 1 ≤ suc n → a ≤ n
deep_less a n le = omega arith

module _ (p : Project) (own : Values) where
  -- so many records a walk stands at one below another, all spreads may be entered, and names are Names
  abbrev pub Deep : ℕ → Both → Type 0
  Deep n x = (depth_of x.spreads p x.source + 1 ≤ n) × Bounded p.fragments x.spreads x.source × SoundSelections x.source

  -- a pointer to a fragment; its body is in an environment that gives Names what the fragment's own does
  pub record Tied (q : Pointer Both) : Type 0 where
    pub fragment : FragmentAt
    pub found : fragment_named p.fragments q.fragment ≡ Some fragment
    pub source : q.body.source ≡ fragment.selections
    pub agree : Agree q.body.environment (shadowed_by (with_marked own q.scope) q.scope)

  module _ (known : AreKnown p) (T : Text) (Good : Asked Both → Type 0) (n : ℕ) where
    abbrev Reaches : List (Item Both) → Type 0
    Reaches items = (x : Asked Both) → Among x (asked_of items) → Good x

    abbrev Fine : Item Both → Type 0
    Fine (asked a) = Good a × Deep n a.part
    Fine (pointed q) = Reaches (gather_whole p own T q.body) × (Deep n q.body × Tied q)

    reaches_left : (xs ys : List (Item Both)) → Reaches (xs ++ ys) → Reaches xs
    reaches_left xs ys h x there = h x (subst (Among x) (sym (asked_append xs ys)) (among_left x (asked_of xs) (asked_of ys) there))

    reaches_right : (xs ys : List (Item Both)) → Reaches (xs ++ ys) → Reaches ys
    reaches_right xs ys h x there = h x (subst (Among x) (sym (asked_append xs ys)) (among_right x (asked_of xs) (asked_of ys) there))

    fine_unless : (b : Bool) (xs ys : List (Item Both)) → (Reaches ys → Each Fine xs) → Reaches (cond b [] ys) → Each Fine (cond b [] xs)
    fine_unless true xs ys f h = tt
    fine_unless false xs ys f h = f h

    fine_where : (b : Bool) (xs ys : List (Item Both)) → (Reaches ys → Each Fine xs) → Reaches (cond b ys []) → Each Fine (cond b xs [])
    fine_where true xs ys f h = f h
    fine_where false xs ys f h = tt

    fine_either : (b : Bool) (xs more ys : List (Item Both)) → (Reaches ys → Each Fine xs) → (Reaches ys → Each Fine more) → Reaches ys → Each Fine (cond b xs more)
    fine_either true xs more ys f g h = f h
    fine_either false xs more ys f g h = g h

    fine_both : (b : Bool) (xs ys more others : List (Item Both)) → (Reaches ys → Each Fine xs) → (Reaches others → Each Fine more) → Reaches (cond b [] ys ++ others)
        → Each Fine (cond b [] xs ++ more)
    fine_both b xs ys more others f g h =
        each_append Fine (cond b [] xs) more (fine_unless b xs ys f (reaches_left (cond b [] ys) others h)) (g (reaches_right (cond b [] ys) others h))

    module _ (k : ℕ) (env : Values) (enter all : Entered) (P : Text → Type 0) (deep : Text → ℕ)
        (is : (s : Sels) → depth_of k p s ≡ depth_with deep s) (within : (s : Sels) → AllSpreads P s → Bounded p.fragments k s)
        (spread : (name : Text) (ds : List Directive) → P name → deep name ≤ n → Reaches (all name ds) → Each Fine (enter name ds)) where
      fine_with : (around : Option Text) (s : Sels) → AllSpreads P s → SoundSelections s → depth_with deep s ≤ n
          → Reaches (gather_with all p.defs T k env around s) → Each Fine (gather_with enter p.defs T k env around s)
      fine_with around sels.end a h le reach = tt
      fine_with around (sels.field r name xs ds s rest) a h le reach =
          let own_item : List (Item Both) = asked (record { ask = ask_of p.defs T env r name xs ds; part = below_field p.defs k env around name ds s }) ∷ [] in
          fine_both (is_left_out env ds) own_item own_item (gather_with enter p.defs T k env around rest) (gather_with all p.defs T k env around rest)
          (λ here. ((here _ (inl refl), (as_deep (depth_of k p s) (depth_with deep s) n (is s) (left_below (depth_with deep s + 1) (depth_with deep rest) n le), within s a.0, h.4)), tt))
          (fine_with around rest a.1 h.5 (right_below (depth_with deep s + 1) (depth_with deep rest) n le)) reach
      fine_with around (sels.spread name ds rest) a h le reach =
          fine_both (is_left_out env ds) (enter name ds) (all name ds) (gather_with enter p.defs T k env around rest) (gather_with all p.defs T k env around rest)
          (spread name ds a.0 (left_below (deep name) (depth_with deep rest) n le))
          (fine_with around rest a.1 h.1 (right_below (deep name) (depth_with deep rest) n le)) reach
      fine_with around (sels.inline o ds s rest) a h le reach =
          let these : List (Item Both) = gather_with enter p.defs T k env (condition_or around o) s in
          let those : List (Item Both) = gather_with all p.defs T k env (condition_or around o) s in
          fine_both (is_left_out env ds) (cond (applies p.defs o T) these []) (cond (applies p.defs o T) those [])
          (gather_with enter p.defs T k env around rest) (gather_with all p.defs T k env around rest)
          (fine_where (applies p.defs o T) these those (fine_with (condition_or around o) s a.0 h.3 (left_below (depth_with deep s) (depth_with deep rest) n le)))
          (fine_with around rest a.1 h.4 (right_below (depth_with deep s) (depth_with deep rest) n le)) reach

    abbrev IsFine : ℕ → Type 0
    IsFine k = (env : Values) (around : Option Text) (s : Sels) → Bounded p.fragments k s → SoundSelections s → depth_of k p s ≤ n
        → Reaches (gather_in k (whole_setting p no_place own) T env around s) → Each Fine (gather_in k (masked_setting p own) T env around s)

    abbrev Leads : ℕ → Text → Type 0
    Leads k name = (f : FragmentAt) × (fragment_named p.fragments name ≡ Some f) × Bounded p.fragments k f.selections

    -- nothing is added to a fragment's own set
    nothing : (k : ℕ) (env : Values) → collect_in k (whole_setting p no_place own) T env sels.end ≡ []
    nothing zero env = refl
    nothing (suc k) env = refl

    bare : (k : ℕ) (env : Values) (ds : List Directive) (f : FragmentAt)
        → gather_whole p own T (both_inside own k env ds f) ≡ gather_in k (whole_setting p no_place own) T (environment_inside own env ds f) (Some f.on.name) f.selections
    bare k env ds f =
        ap (λ us. gather_in k (whole_setting p no_place own) T (environment_inside own env ds f) (Some f.on.name) f.selections ++ map lifted_item us) (nothing k (environment_inside own env ds f))
        ∙ append-nil (gather_in k (whole_setting p no_place own) T (environment_inside own env ds f) (Some f.on.name) f.selections)

    module _ (k : ℕ) (env : Values) (ds : List Directive) (deeper : IsFine k) where
      fine_fragment : (name : Text) (f : FragmentAt) → fragment_named p.fragments name ≡ Some f → IsKnown p name f → Bounded p.fragments k f.selections → depth_of k p f.selections + 1 ≤ n
          → Reaches (gather_in k (whole_setting p no_place own) T (environment_inside own env ds f) (Some f.on.name) f.selections)
          → Each Fine (both_spread (masked_setting p own) k (λ x. gather_in k (masked_setting p own) T x.environment x.around x.source) env ds f)
      fine_fragment name f e knows a le =
          let inner : Values = environment_inside own env ds f in
          fine_either (is_open ds) (gather_in k (masked_setting p own) T inner (Some f.on.name) f.selections) (pointed (both_pointer (masked_setting p own) k env ds f) ∷ [])
          (gather_in k (whole_setting p no_place own) T inner (Some f.on.name) f.selections)
          (deeper inner (Some f.on.name) f.selections a knows.sound (less_below (depth_of k p f.selections) n le))
          (λ reach. (
            (
              subst Reaches (sym (bare k env ds f)) reach,
              (
                (le, a, knows.sound),
                record {
                  fragment = f;
                  found = ap (fragment_named p.fragments) knows.name ∙ e;
                  source = refl;
                  agree = alone_agrees own env ds f knows.constants;
                },
              ),
            ),
            tt,
          ))

      fine_found : (name : Text) (o : Option FragmentAt) → fragment_named p.fragments name ≡ o → Leads k name → depth_inside (λ f. depth_of k p f.selections + 1) o ≤ n
          → Reaches (both_where (both_spread (whole_setting p no_place own) k (λ x. gather_in k (whole_setting p no_place own) T x.environment x.around x.source) env ds) p.defs T o)
          → Each Fine (both_where (both_spread (masked_setting p own) k (λ x. gather_in k (masked_setting p own) T x.environment x.around x.source) env ds) p.defs T o)
      fine_found name None e a le reach = tt
      fine_found name (Some f) e a le reach =
          let same : a.0 ≡ f = cc (a.1, e) in
          fine_where (applies p.defs (Some f.on.name) T)
          (both_spread (masked_setting p own) k (λ x. gather_in k (masked_setting p own) T x.environment x.around x.source) env ds f)
          (gather_in k (whole_setting p no_place own) T (environment_inside own env ds f) (Some f.on.name) f.selections)
          (fine_fragment name f e (known name f e) (subst (λ (g : FragmentAt). Bounded p.fragments k g.selections) same a.2) le) reach

    fine : (k : ℕ) → IsFine k
    fine zero env around s a h le =
        fine_with zero env (at_spread zero (masked_setting p own) T env) (at_spread zero (whole_setting p no_place own) T env) (λ name. ⊥) (λ name. 0) (λ t. refl) (λ t b. b)
        (λ name ds i short reach. absurd i) around s a h le
    fine (suc k) env around s a h le =
        fine_with (suc k) env (at_spread (suc k) (masked_setting p own) T env) (at_spread (suc k) (whole_setting p no_place own) T env) (Leads k)
        (λ name. depth_inside (λ f. depth_of k p f.selections + 1) (fragment_named p.fragments name)) (λ t. refl) (λ t b. b)
        (λ name ds i short reach. fine_found k env ds (fine k) name (fragment_named p.fragments name) refl i short reach) around s a h le

  covered_item : (known : AreKnown p) (T : Text) (x : Both) (n : ℕ) (i : Item Both) → Fine known T (λ a. Among a (asked_of (gather_whole p own T x))) n i
      → Covered (gather_masked p own) (gather_whole p own) Deep Tied n T x i
  covered_item known T x n (asked a) h = h
  covered_item known T x n (pointed q) h = h

  pub covers : AreKnown p → Covers (gather_masked p own) (gather_whole p own) Deep Tied
  covers known n T x h =
      let Good : Asked Both → Type 0 = λ a. Among a (asked_of (gather_whole p own T x)) in
      each_so (Fine known T Good n) (Covered (gather_masked p own) (gather_whole p own) Deep Tied n T x) (gather_masked p own T x) (covered_item known T x n)
      (fine known T Good n x.spreads x.environment x.around x.source h.1 h.2 (deep_less (depth_of x.spreads p x.source) n h.0)
      (reaches_left known T Good n (gather_in x.spreads (whole_setting p no_place own) T x.environment x.around x.source) (gather_added p own T x) (λ a there. there)))
