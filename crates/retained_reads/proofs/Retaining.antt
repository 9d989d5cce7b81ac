-- Where the slots stay at all ids that an operation reaches, what it shows stays, and what each pointer shows that it gives, and in turn each that
-- those give.
use Rattle.std.proofs.Common.{◌≡◌, ℕ, zero, suc, ◌+◌, ◌≤◌, true, List, [], ◌∷◌, max, Option, Some, None, refl, sym, ap, subst, ◌∙◌, arith}
use Rattle.plan_ir.specs.gql_ast.Sels as sels
use Rattle.plan_ir.specs.gql_ast.Sels.{Sels}
use Rattle.plan_ir.specs.gql_plain.Order.{has_text}
use Rattle.plan_project.proofs.plan_build_laws.PartDepths.{selections_enough}
use Rattle.plan_ir.specs.Expansion as plans
use Rattle.plan_ir.specs.Expansion.{name_or, spreads_in}
use Rattle.plan_project.proofs.SpreadChains.{Bounded}
use Rattle.relay_machine.proofs.plan_collect_laws.Collects.{sels_append-end}
use Rattle.relay_machine.specs.plan_collect.Collecting.{with_additions}
use Rattle.relay_machine.specs.Machine.{Project, Retained, documents_of, slots_of}
use Rattle.relay_machine.specs.relay_model.Collection.{Part, collect, part_of}
use Rattle.relay_machine.specs.relay_model.Reaches.{operation_reaches, whole_depth}
use Rattle.relay_machine.specs.relay_model.Readings.{depth_of, fragment_part, masked_setting, no_place, with_marked}
use Rattle.relay_machine.specs.relay_model.Responses.{whole_setting}
use Rattle.retained_reads.proofs.Accepted.{IsKnownOperation}
use Rattle.retained_reads.proofs.Both.{Both, as_part, gather_masked, gather_whole}
use Rattle.retained_reads.proofs.Covering.{Deep, Tied, covers}
use Rattle.retained_reads.proofs.Depths.{same_depth}
use Rattle.retained_reads.proofs.Marked.{marked_agrees}
use Rattle.retained_reads.proofs.MaskedItems.{AreKnown, Follows, masked_items}
use Rattle.retained_reads.proofs.WholeItems.{whole_items}
use Rattle.retained_reads.specs.Reads.{StaysRead, fragment_found, operation_found, pointer_found, pointers_given}
use Rattle.plan_ir.specs.schema_tables.Types.{Text, possible, root}
use Rattle.plan_ir.specs.schema_types.Environments.{Values}
use Rattle.plan_ir.specs.schema_types.NameRules.{fragment_named}
use Rattle.plan_ir.specs.schema_types.Sites.{FragmentAt}
use Rattle.plan_ir.proofs.store_model_laws.Deep.{LessDeep, read_deep}
use Rattle.plan_ir.proofs.store_model_laws.ItemReaches.{reach_items}
use Rattle.plan_ir.proofs.store_model_laws.ItemReads.{read_items}
use Rattle.plan_ir.proofs.store_model_laws.Kept.{Holds, Issues, SubAt, kept}
use Rattle.plan_ir.proofs.store_model_laws.Least.{Each, each_append, each_so}
use Rattle.plan_ir.proofs.store_model_laws.SameSlots.{read_same_seen}
use Rattle.plan_ir.proofs.store_model_laws.Seated.{among_all, each_among}
use Rattle.plan_ir.specs.store_model.Items.{Item, Pointer, asked, pointed}
use Rattle.plan_ir.specs.store_model.Records.{Records}
use Rattle.plan_ir.specs.store_model.Reaches.{reach_at}
use Rattle.plan_ir.specs.store_model.Retention.{Covered}
use Rattle.plan_ir.specs.store_model.Walks.{Found, Issued, Standing, absent, gone, lives, pointers_in_turn, pointers_of_reads, read_at, type_of_record}
use Rattle.plan_ir.specs.store_record.Keys as keys

first_fits : (a b : ℕ) → a + 1 ≤ max a b + 1
first_fits a b = omega arith

second_fits : (a b : ℕ) → b + 1 ≤ max a b + 1
second_fits a b = omega arith

none_deep : (a : ℕ) → a + 1 ≤ 0 → ⊥
none_deep a le = omega (arith, le)

fits_as : (a b n : ℕ) → a ≡ b → a + 1 ≤ n → b + 1 ≤ n
fits_as a b n e le = omega (arith, e, le)

just_fits : (a b : ℕ) → a ≡ b → a + 1 ≤ b + 1
just_fits a b e = omega (arith, e)

abbrev name_of : Standing → Text
name_of absent = []
name_of gone = []
name_of (lives name) = name

module _ (p : Project) (known : AreKnown (documents_of p)) (r : Retained) (mine : IsKnownOperation (documents_of p) r.operation) (owner : Text) (m later : Records) where
  abbrev docs : plans.Project
  docs = documents_of p

  abbrev own : Values
  own = r.values

  abbrev T : Text
  T = name_or (root p.defs r.operation.kind)

  abbrev typed : Text → Text
  typed = type_of_record T

  abbrev masked : Text → Both → List (Item Both)
  masked = gather_masked docs own

  abbrev whole : Text → Both → List (Item Both)
  whole = gather_whole docs own

  abbrev Stays : Text → Type 0
  Stays j = slots_of m j ≡ slots_of later j

  -- the operation as both forms see it
  abbrev start : Both
  start = record { spreads = spreads_in docs; environment = own; around = root p.defs r.operation.kind; source = r.operation.selections; extra = sels.end }

  abbrev depth : ℕ
  depth = depth_of (spreads_in docs) docs r.operation.selections + 1

  abbrev whole_part : Part
  whole_part = part_of (whole_setting docs no_place own) r.operation

  abbrev deeper : ℕ
  deeper = max (depth_of (spreads_in docs) docs r.operation.selections) (whole_depth whole_part.spreads (whole_setting docs no_place own) whole_part.selections) + 1

  -- ---- the operation

  operation_same : operation_found p owner r m ≡ read_at masked typed owner (slots_of m) depth (T ∷ []) (start ∷ []) keys.root
  operation_same =
      sym (read_items masked (collect (masked_setting docs own)) typed owner (slots_of m) (Follows docs) (masked_items docs known own own (λ n i. refl)) depth (T ∷ []) start []
      (part_of (masked_setting docs own) r.operation) [] keys.root
      (record { selections = refl; environment = λ n i. refl; here = mine.bounded; there = mine.bounded; sound = mine.sound }) tt)

  seen : whole_part ≡ as_part p.defs start
  seen = ap (λ (s : Sels). record { spreads = spreads_in docs; environment = own; selections = s }) (sym (sels_append-end (with_additions p.defs no_place (root p.defs r.operation.kind) r.operation.selections)))

  reach_same : reach_at whole typed (slots_of m) deeper (T ∷ []) (start ∷ []) keys.root ≡ operation_reaches docs no_place r.operation own (slots_of m) keys.root
  reach_same =
      sym (reach_items (collect (whole_setting docs no_place own)) whole typed (slots_of m) (λ f x. f ≡ as_part p.defs x) (whole_items docs own) deeper (T ∷ []) (whole_part ∷ []) (start ∷ []) keys.root (seen, tt))
      ∙ selections_enough (record { project = docs; place = no_place; own = own }) T (slots_of m) deeper whole_part keys.root
      (second_fits (depth_of (spreads_in docs) docs r.operation.selections) (whole_depth whole_part.spreads (whole_setting docs no_place own) whole_part.selections))

  -- ---- pointers

  less_deep : (n : ℕ) (U : Text) (x : Both) (i : Item Both) → Covered masked whole (Deep docs own) (Tied docs own) n U x i → LessDeep masked (Deep docs own) n i
  less_deep n U x (asked a) h = h.1
  less_deep n U x (pointed q) h = h.1.0

  less : (n : ℕ) (U : Text) (x : Both) → Deep docs own (suc n) x → Each (LessDeep masked (Deep docs own) n) (masked U x)
  less n U x h =
      each_so (Covered masked whole (Deep docs own) (Tied docs own) n U x) (LessDeep masked (Deep docs own) n) (masked U x) (less_deep n U x) (covers docs own known n U x h)

  -- the read of a pointer's body is that of its fragment
  body_same : (n : ℕ) (id : Text) (q : Pointer Both) → Deep docs own n q.body → (t : Tied docs own q)
      → read_at masked typed owner (slots_of m) n (possible p.defs t.fragment.on.name) (q.body ∷ []) id ≡ pointer_found p owner r m (record { fragment = q.fragment; id = id; scope = q.scope })
  body_same n id q deep t =
      let f : FragmentAt = t.fragment in
      let types : List Text = possible p.defs f.on.name in
      let all_of : Bounded docs.fragments (spreads_in docs) q.body.source = subst (λ (s : Sels). Bounded docs.fragments (spreads_in docs) s) (sym t.source) (known q.fragment f t.found).bounded in
      let number : ℕ = depth_of (spreads_in docs) docs f.selections in
      let same : depth_of q.body.spreads docs q.body.source ≡ number =
      same_depth docs q.body.spreads (spreads_in docs) q.body.source deep.1 (all_of) ∙ ap (depth_of (spreads_in docs) docs) t.source in
      read_deep masked (Deep docs own) less (λ x h. none_deep (depth_of x.spreads docs x.source) h.0) typed owner (slots_of m) (number + 1) n
      (fits_as (depth_of q.body.spreads docs q.body.source) number n same deep.0) types q.body id
      (just_fits (depth_of q.body.spreads docs q.body.source) number same, deep.1, deep.2)
      ∙ read_items masked (collect (masked_setting docs (with_marked own q.scope))) typed owner (slots_of m) (Follows docs)
      (masked_items docs known own (with_marked own q.scope) (marked_agrees own q.scope)) (number + 1) types q.body [] (fragment_part docs f own q.scope) [] id
      (record { selections = sym t.source; environment = t.agree; here = deep.1; there = all_of; sound = deep.2 }) tt
      ∙ ap (fragment_found p owner r m (record { fragment = q.fragment; id = id; scope = q.scope })) (sym t.found)

  -- what holds of a pointer so many turns on
  abbrev Turns : ℕ → Issued → Type 0
  Turns zero i = Unit {0}
  Turns (suc t) i = Holds Stays (Turns t) (pointer_found p owner r m i).1

  turns_issue : (t : ℕ) → Issues masked whole (Deep docs own) (Tied docs own) (covers docs own known) typed owner (slots_of m) depth Stays (Turns t)
  turns_issue zero k j reached gs id name q le short is here sub deep tied reach = tt
  turns_issue (suc t) k j reached gs id name q le short is here sub deep tied reach =
      subst (λ (f : Found). Holds Stays (Turns t) f.1) (body_same k id q deep tied)
      (kept masked whole (Deep docs own) (Tied docs own) (covers docs own known) typed owner (slots_of m) depth Stays (Turns t) (turns_issue t) k j le short
      (possible p.defs tied.fragment.on.name) reached (q.body ∷ []) gs id
      (λ other same h. subst (λ k. has_text reached (typed k) ≡ true) (ap name_of (sym is ∙ same)) here)
      (λ other same. (subst (λ k. SubAt masked whole (Deep docs own) (Tied docs own) (typed k) gs q.body) (ap name_of (sym is ∙ same)) sub, tt)) (deep, tt) reach)

  abbrev shown : Issued → Found
  shown = pointer_found p owner r m

  turns_each : (t : ℕ) (is : List Issued) → Each (Turns (suc t)) is → Each (Turns t) (pointers_of_reads shown is)
  turns_each t [] h = tt
  turns_each t (i ∷ is) h = each_append (Turns t) (shown i).1.issued (pointers_of_reads shown is) h.0.1 (turns_each t is h.1)

  all_in_turn : (t : ℕ) (is : List Issued) → Each (Turns (suc t)) is → Each (λ i. Each Stays (shown i).1.seen) (pointers_in_turn shown t is)
  all_in_turn zero is h = each_so (Turns 1) (λ i. Each Stays (shown i).1.seen) is (λ i t. t.0) h
  all_in_turn (suc t) is h =
      each_append (λ i. Each Stays (shown i).1.seen) is (pointers_in_turn shown t (pointers_of_reads shown is))
      (each_so (Turns (suc (suc t))) (λ i. Each Stays (shown i).1.seen) is (λ i t. t.0) h)
      (all_in_turn t (pointers_of_reads shown is) (turns_each (suc t) is h))

  fragment_stays : (i : Issued) (o : Option FragmentAt) → Each Stays (fragment_found p owner r m i o).1.seen → fragment_found p owner r later i o ≡ fragment_found p owner r m i o
  fragment_stays i None h = refl
  fragment_stays i (Some f) h =
      read_same_seen (collect (masked_setting docs (with_marked own i.scope))) typed owner (slots_of m) (slots_of later) (depth_of (spreads_in docs) docs f.selections + 1)
      (possible p.defs f.on.name) (fragment_part docs f own i.scope ∷ []) i.id h

  -- ---- all of them

  module _ (reach : Each Stays (operation_reaches docs no_place r.operation own (slots_of m) keys.root)) where
    held : (t : ℕ) → Holds Stays (Turns t) (operation_found p owner r m).1
    held t =
        subst (λ (f : Found). Holds Stays (Turns t) f.1) (sym operation_same)
        (kept masked whole (Deep docs own) (Tied docs own) (covers docs own known) typed owner (slots_of m) depth Stays (Turns t) (turns_issue t) depth deeper
        (first_fits (depth_of (spreads_in docs) docs r.operation.selections) (whole_depth whole_part.spreads (whole_setting docs no_place own) whole_part.selections)) (omega arith)
        (T ∷ []) (T ∷ []) (start ∷ []) (start ∷ []) keys.root (λ name is h. h)
        (λ name is. each_among (SubAt masked whole (Deep docs own) (Tied docs own) (typed name) (start ∷ [])) (start ∷ []) (λ f h x here. among_all whole (typed name) f (start ∷ []) x h here))
        ((omega arith, mine.bounded, mine.sound), tt) (subst (Each Stays) (sym reach_same) reach))

    pub stays_read : StaysRead p owner m later r
    stays_read = record {
      operation = read_same_seen (collect (masked_setting docs own)) typed owner (slots_of m) (slots_of later) depth (T ∷ []) (part_of (masked_setting docs own) r.operation ∷ []) keys.root (held zero).0;
      pointers = λ turns.
          each_so (λ i. Each Stays (shown i).1.seen) (λ i. pointer_found p owner r later i ≡ pointer_found p owner r m i) (pointers_given p owner r m turns)
          (λ i h. fragment_stays i (fragment_named docs.fragments i.fragment) h) (all_in_turn turns (operation_found p owner r m).1.issued (held (suc turns)).1);
    }
