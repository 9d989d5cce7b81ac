-- Each response says the same to the steps of an expanded operation and to its nodes.
use Rattle.std.proofs.Common.{◌≡◌, Bool, true, false, true≢false, ◌||◌, List, [], ◌∷◌, ◌++◌, map, bytes_eq, refl, ap, sym, ◌∙◌, subst, inl, inr}
use Rattle.std.proofs.lemmas.List.{map-append}
use Rattle.std.specs.List.{AllByRecursion, AllZip}
use Rattle.plan_ir.proofs.gql_graph_laws.TextSteps.{same_self, same_text}
use Rattle.plan_ir.specs.gql_plain.Order.{has_text}
use Rattle.plan_ir.specs.NormalMeaning.{Plan, collect_plan, plan_says}
use Rattle.plan_ir.specs.declared.expanded.Expanded.{Expanded}
use Rattle.plan_ir.specs.schema_rules.Checked.{IsSound}
use Rattle.plan_ir.specs.schema_rules.Rules.{is_object}
use Rattle.plan_ir.specs.schema_tables.Types.{Text, Defs, possible}
use Rattle.plan_ir.specs.schema_types.Environments.{Values}
use Rattle.serde_json.specs.Data as J
use Rattle.plan_ir.proofs.store_model_laws.AlikeSays.{response_alike}
use Rattle.plan_ir.proofs.store_model_laws.Valid.{Fits, onto_fits}
use Rattle.plan_ir.specs.store_model.Alike.{Among, AlikeGroup, AlikePointer, Keeps, Related}
use Rattle.plan_ir.specs.store_model.Items.{Ask, Asked, Form, Group, typename, leaf, one, many, members, parts, collect_all, groups_at, groups_of, grouped_onto, pointers, pointers_on}
use Rattle.plan_ir.specs.store_model.Reaches.{types_of}
use Rattle.plan_ir.specs.store_model.Verdicts.{verdict}
use Rattle.doc_merge.specs.Paths.{paths}
use Rattle.plan_build.proofs.Covariance.{object_alone}
use Rattle.plan_build.proofs.CovarianceRules.{sound_meets}
use Rattle.plan_build.proofs.Grouped.{Below, alike_groups, each_map, each_so, groups_seen, no_pointers, seen, seen_group}
use Rattle.plan_build.proofs.OrderLaws.{differ_one}
use Rattle.plan_build.proofs.PartLaws.{GatheredFrom, Holds, Merge, all_from, fields, names_below, one_form}
use Rattle.plan_build.proofs.Parts.{Part, as_plan, as_set, gather, gather_all, node_item, node_items, plan_below, planned, set_of, step_item}
use Rattle.plan_build.proofs.SoundTypes.{are_sound}
use Rattle.plan_build.proofs.StepLaws.{AreSound, step_items}
use Rattle.plan_build.specs.FieldsAlike.{FieldsAreAlike}
use Rattle.plan_build.specs.NodesMeaning.{Set, collect_nodes, nodes_say}
use Rattle.plan_build.specs.Steps.{plan_of}
use Rattle.plan_build.specs.Suited.{IsSuited}

-- ---- sets and their plans

-- on an object type these are the plans of these sets
pub record RelatedAt (defs : Defs) (T : Text) (fs : List Set) (gs : List Plan) : Type 0 where
  pub parts : List Part
  pub sets : fs ≡ map set_of parts
  pub plans : gs ≡ map (planned defs) parts
  pub holds : AllByRecursion (Holds defs T) parts
  pub merge : Merge defs parts

-- each part is planned on its own static type, whatever the types that are possible here
abbrev pub ArePlans : Defs → Related Set Plan
ArePlans defs types fs gs = (T : Text) → has_text types T ≡ true → RelatedAt defs T fs gs

pub only_one : (T U : Text) → has_text (T ∷ []) U ≡ true → U ≡ T
only_one T U h = on (bytes_eq T U) refl h where
  on : (b : Bool) → bytes_eq T U ≡ b → (b || false) ≡ true → U ≡ T
  on true e k = sym (same_text T U e)
  on false e k = absurd (true≢false (sym k))

-- ---- what lies below a group

pub parts_sets : (ms : List (Asked Part)) → map (λ (a : Asked Set). a.part) (map (seen as_set) ms) ≡ map set_of (map (λ (m : Asked Part). m.part) ms)
parts_sets [] = refl
parts_sets (m ∷ ms) = ap (λ (fs : List Set). m.part.set ∷ fs) (parts_sets ms)

plan_is : (defs : Defs) (form : Form) (U : Text) (p : Part) → has_text (types_of form) U ≡ true → plan_below defs form p ≡ planned defs p
plan_is defs typename U p h = absurd (true≢false (sym h))
plan_is defs leaf U p h = absurd (true≢false (sym h))
plan_is defs (one b) U p h = refl
plan_is defs (many b) U p h = refl

parts_plans : (defs : Defs) (form : Form) (U : Text) → has_text (types_of form) U ≡ true → (ms : List (Asked Part)) → AllByRecursion (λ m. m.ask.form ≡ form) ms
    → map (λ (a : Asked Plan). a.part) (map (seen (as_plan defs)) ms) ≡ map (planned defs) (map (λ (m : Asked Part). m.part) ms)
parts_plans defs form U h [] same = refl
parts_plans defs form U h (m ∷ ms) same =
    λ i. (ap (λ (f : Form). plan_below defs f m.part) same.0 ∙ plan_is defs form U m.part h) i ∷ parts_plans defs form U h ms same.1 i

module _ (defs : Defs) (T : Text) (ps : List Part) (merge : Merge defs ps) where
  abbrev pub Fit : Text → Asked Part → Type 0
  Fit r m = GatheredFrom defs T ps m × (m.ask.response ≡ r)

  pub record MemberOf (r : Text) (p : Part) : Type 0 where
    pub field : Asked Part
    pub fit : Fit r field
    pub is : field.part ≡ p

  member_of : (r : Text) (ms : List (Asked Part)) → AllByRecursion (Fit r) ms → (p : Part) → Among p (map (λ (m : Asked Part). m.part) ms) → MemberOf r p
  member_of r [] all p h = absurd h
  member_of r (m ∷ ms) all p (inl e) = record { field = m; fit = all.0; is = e }
  member_of r (m ∷ ms) all p (inr h) = member_of r ms all.1 p h

  pub merge_below : (r : Text) (ms : List (Asked Part)) → AllByRecursion (Fit r) ms → Merge defs (map (λ (m : Asked Part). m.part) ms)
  merge_below r ms all p q h k s u there back =
      let a = member_of r ms all p h in
      let b = member_of r ms all q k in
      names_below defs T ps merge a.field b.field a.fit.0 b.fit.0 (a.fit.1 ∙ sym b.fit.1) s u
      (subst (λ (w : Part). Among s (paths (fields defs w))) (sym a.is) there) (subst (λ (w : Part). Among u (paths (fields defs w))) (sym b.is) back)

  pub holds_below : (x m : Asked Part) (U : Text) → Fit x.ask.response m → GatheredFrom defs T ps x → has_text (types_of x.ask.form) U ≡ true → Holds defs U m.part
  holds_below x m U fit gx h =
      let own : has_text (types_of m.ask.form) U ≡ true = ap (λ (f : Form). has_text (types_of f) U) (one_form defs T ps merge m x fit.0 gx fit.1) ∙ h in
      let there : has_text (possible defs m.part.type) U ≡ true = fit.0.gathered.below U own in
      record { suited = fit.0.gathered.suited; differ = fit.0.gathered.differ; here = fit.0.gathered.here U own; there = there; alone = fit.0.gathered.alone U there }

  -- its joined parts are plans of its joined sets, at the types of each of its fields
  one_below : (x : Asked Part) (ms : List (Asked Part)) → AllByRecursion (Fit x.ask.response) ms → GatheredFrom defs T ps x
      → ArePlans defs (types_of x.ask.form) (map (λ (a : Asked Set). a.part) (map (seen as_set) ms)) (map (λ (a : Asked Plan). a.part) (map (seen (as_plan defs)) ms))
  one_below x ms all gx U h = record {
    parts = map (λ (m : Asked Part). m.part) ms;
    sets = parts_sets ms;
    plans = parts_plans defs x.ask.form U h ms (each_so (Fit x.ask.response) (λ m. m.ask.form ≡ x.ask.form) ms (λ m fit. one_form defs T ps merge m x fit.0 gx fit.1) all);
    holds = each_map (λ (m : Asked Part). m.part) (Holds defs U) ms (each_so (Fit x.ask.response) (λ m. Holds defs U m.part) ms (λ m fit. holds_below x m U fit gx h) all);
    merge = merge_below x.ask.response ms all;
  }

  group_below : (g : Group Part) → Fits (GatheredFrom defs T ps) g → Below as_set (as_plan defs) (ArePlans defs) g
  group_below g fits =
      each_map (λ (m : Asked Part). m.ask) (λ (a : Ask). ArePlans defs (types_of a.form) (parts (seen_group as_set g)) (parts (seen_group (as_plan defs) g))) (members g)
      (each_so (Fit g.first.ask.response) (λ m. ArePlans defs (types_of m.ask.form) (parts (seen_group as_set g)) (parts (seen_group (as_plan defs) g))) (members g)
      (λ x fit. one_below x (members g)
      (each_so (Fit g.first.ask.response) (Fit x.ask.response) (members g) (λ m other. (other.0, other.1 ∙ sym fit.1)) fits) fit.0)
      fits)

-- ---- the relation is kept

plan_items : (defs : Defs) → AreSound defs → (T : Text) (ps : List Part) → AllByRecursion (Holds defs T) ps
    → collect_all collect_plan T (map (planned defs) ps) ≡ map (step_item defs) (gather_all defs T ps)
plan_items defs sound T [] h = refl
plan_items defs sound T (p ∷ ps) h =
    (λ i. step_items defs sound T p.set.environment p.types p.around p.type p.set.nodes h.0.differ h.0.here h.0.there h.0.suited i ++ plan_items defs sound T ps h.1 i)
    ∙ sym (map-append (step_item defs) (gather defs T p) (gather_all defs T ps))

pub plans_keep : (defs : Defs) → AreSound defs → Keeps (ArePlans defs) (ArePlans defs) (collect_nodes defs) collect_plan
plans_keep defs sound T types fs gs own h =
    let k : RelatedAt defs T fs gs = h T own in
    let us : List (Asked Part) = gather_all defs T k.parts in
    let nodes : collect_all (collect_nodes defs) T fs ≡ map node_item us = ap (collect_all (collect_nodes defs) T) k.sets ∙ node_items defs T k.parts in
    let steps : collect_all collect_plan T gs ≡ map (step_item defs) us = ap (collect_all collect_plan T) k.plans ∙ plan_items defs sound T k.parts k.holds in
    let groups : List (Group Part) = grouped_onto [] us in
    let fits : AllByRecursion (Fits (GatheredFrom defs T k.parts)) groups = onto_fits (GatheredFrom defs T k.parts) us [] tt (all_from defs sound T k.parts k.holds) in
    let alike : AllZip (AlikeGroup (ArePlans defs)) (map (seen_group as_set) groups) (map (seen_group (as_plan defs)) groups) =
    alike_groups as_set (as_plan defs) (ArePlans defs) groups
    (each_so (Fits (GatheredFrom defs T k.parts)) (Below as_set (as_plan defs) (ArePlans defs)) groups (group_below defs T k.parts k.merge) fits) in
    record {
      groups = subst (λ (xs : List (Group Set)). AllZip (AlikeGroup (ArePlans defs)) xs (groups_at collect_plan T gs)) (sym (ap groups_of nodes ∙ groups_seen as_set us))
          (subst (λ (ys : List (Group Plan)). AllZip (AlikeGroup (ArePlans defs)) (map (seen_group as_set) groups) ys) (sym (ap groups_of steps ∙ groups_seen (as_plan defs) us)) alike);
      pointers = subst (λ xs. AllZip (AlikePointer (ArePlans defs) T) xs (pointers_on collect_plan T gs)) (sym (ap pointers nodes ∙ no_pointers as_set us))
          (subst (λ ys. AllZip (AlikePointer (ArePlans defs) T) [] ys) (sym (ap pointers steps ∙ no_pointers (as_plan defs) us)) tt);
    }

-- ---- operations

abbrev pub root_part : Values → Expanded → (types : List Text) → Part
root_part own e ts = record { set = record { environment = own; nodes = e.selections }; types = ts; around = e.root; type = e.root }

pub merge_root : (defs : Defs) (own : Values) (e : Expanded) (ts : List Text) → FieldsAreAlike defs e → Merge defs (root_part own e ts ∷ [])
merge_root defs own e ts alike p q (inl f) (inl g) s u h k =
    alike s u (subst (λ (w : Part). Among s (paths (fields defs w))) (sym f) h) (subst (λ (w : Part). Among u (paths (fields defs w))) (sym g) k)
merge_root defs own e ts alike p q (inl f) (inr g) s u h k = absurd g
merge_root defs own e ts alike p q (inr f) g s u h k = absurd f

pub root_has : (defs : Defs) → IsSound defs → (t : Text) → is_object defs t ≡ true → has_text (possible defs t) t ≡ true
root_has defs sound t e = ap (λ (ts : List Text). has_text ts t) (object_alone defs (sound_meets defs sound) t e) ∙ ap (λ (b : Bool). b || false) (same_self t)

-- the set of an operation at its root type
pub root_holds : (defs : Defs) (own : Values) (e : Expanded) → IsSound defs → IsSuited defs e → (T : Text) → has_text (e.root ∷ []) T ≡ true → Holds defs T (root_part own e (e.root ∷ []))
root_holds defs own e sound suited T h =
    let is : T ≡ e.root = only_one e.root T h in
    record {
      suited = suited.selections;
      differ = differ_one e.root;
      here = h;
      there = ap (has_text (possible defs e.root)) is ∙ root_has defs sound e.root suited.root;
      alone = λ b. is;
    }

pub root_plans : (defs : Defs) (own : Values) (e : Expanded) → IsSound defs → IsSuited defs e → FieldsAreAlike defs e
    → ArePlans defs (e.root ∷ []) (record { environment = own; nodes = e.selections } ∷ []) (record { environment = own; steps = plan_of defs e } ∷ [])
root_plans defs own e sound suited alike T h = record {
  parts = root_part own e (e.root ∷ []) ∷ [];
  sets = refl;
  plans = refl;
  holds = (root_holds defs own e sound suited T h, tt);
  merge = merge_root defs own e (e.root ∷ []) alike;
}

pub plan_means : (defs : Defs) (e : Expanded) → IsSound defs → IsSuited defs e → FieldsAreAlike defs e → (own : Values) (response : J.Data)
    → plan_says e.root own (plan_of defs e) response ≡ nodes_say defs e own response
plan_means defs e sound suited alike own response =
    sym (ap verdict (response_alike (ArePlans defs) (collect_nodes defs) collect_plan (plans_keep defs (are_sound defs sound)) e.root
    (record { environment = own; nodes = e.selections } ∷ []) (record { environment = own; steps = plan_of defs e } ∷ []) (root_plans defs own e sound suited alike) response))
