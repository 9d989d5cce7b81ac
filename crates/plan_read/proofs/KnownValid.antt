-- What is known of selections at types stays known of what stands below their fields, and in their pointers.
use Rattle.std.proofs.Common.{◌≡◌, Bool, true, false, cond, List, [], ◌∷◌, ◌++◌, map, bytes_eq, refl, ap, sym, ◌∙◌, subst, inl, inr}
use Rattle.std.specs.List.{AllByRecursion}
use Rattle.plan_build.specs.doc_merge.Paths.{Path, paths}
use Rattle.plan_ir.specs.gql_plain.Order.{has_text}
use Rattle.plan_build.proofs.ClassLaws.{Differ}
use Rattle.plan_build.proofs.Grouped.{each_map, each_so}
use Rattle.plan_build.proofs.Meaning.{Fit, holds_below, merge_below, only_one}
use Rattle.plan_build.proofs.PartLaws.{GatheredFrom, Merge, all_from, among_left, each_append, fields, one_form}
use Rattle.plan_build.proofs.Parts as parts
use Rattle.plan_build.proofs.StepLaws.{AreSound}
use Rattle.plan_ir.specs.Expansion.{Project}
use Rattle.plan_read.proofs.KnownNodes.{Covers, Stands, items_covered, seen_nodes}
use Rattle.plan_read.proofs.KnownParts.{Known, as_nodes, gather}
use Rattle.plan_build.proofs.plan_collect_laws.Evaluating.{Means}
use Rattle.plan_ir.specs.schema_tables.Types.{Text}
use Rattle.plan_ir.specs.schema_types.Environments.{Values}
use Rattle.plan_ir.proofs.store_model_laws.SameItems.{Holds}
use Rattle.plan_ir.proofs.store_model_laws.Valid.{Fits, onto_fits}
use Rattle.plan_ir.specs.store_model.Alike.{Among}
use Rattle.plan_ir.specs.store_model.Items as items
use Rattle.plan_ir.specs.store_model.Items.{Asked, Form, Group, Item, Pointer, asked, asked_of, asks, collect_all, grouped_onto, members, pointed, pointers, without}
use Rattle.plan_ir.specs.store_model.Reaches.{types_of}

-- ---- lists

each_there : {X : Type 0} (P : X → Type 0) (x : X) (xs : List X) → AllByRecursion P xs → Among x xs → P x
each_there P x [] all h = absurd h
each_there P x (y ∷ ys) all (inl e) = subst P e all.0
each_there P x (y ∷ ys) all (inr h) = each_there P x ys all.1 h

-- what holds of each item holds of each field, and of each pointer that counts
module _ {F : Type 0} (P : Item F → Type 0) where
  each_asked : (xs : List (Item F)) → AllByRecursion P xs → AllByRecursion (λ a. P (asked a)) (asked_of xs)
  each_asked [] h = tt
  each_asked (asked a ∷ xs) h = (h.0, each_asked xs h.1)
  each_asked (pointed q ∷ xs) h = each_asked xs h.1

  each_without : (name : Text) (qs : List (Pointer F)) → AllByRecursion (λ q. P (pointed q)) qs → AllByRecursion (λ q. P (pointed q)) (without name qs)
  each_without name [] h = tt
  each_without name (q ∷ qs) h = on (bytes_eq q.fragment name) (each_without name qs h.1) where
    on : (b : Bool) → AllByRecursion (λ q. P (pointed q)) (without name qs) → AllByRecursion (λ q. P (pointed q)) (cond b (without name qs) (q ∷ without name qs))
    on true later = later
    on false later = (h.0, later)

  each_pointer : (xs : List (Item F)) → AllByRecursion P xs → AllByRecursion (λ q. P (pointed q)) (pointers xs)
  each_pointer [] h = tt
  each_pointer (asked a ∷ xs) h = each_pointer xs h.1
  each_pointer (pointed q ∷ xs) h = (h.0, each_without q.fragment (pointers xs) (each_pointer xs h.1))

-- ---- selections that are read together

-- at each of these types each stands, and the fields of what they become merge
abbrev pub AreKnown : Project → Values → List Text → List Known → Type 0
AreKnown p own types xs = (T : Text) → has_text types T ≡ true → AllByRecursion (Stands p own T) xs × Merge p.defs (map (as_nodes p own) xs)

module _ (p : Project) (own : Values) (sound : AreSound p.defs) (T : Text) (ps : List parts.Part) (merge : Merge p.defs ps) where
  -- a field that comes of nodes of these parts
  record Comes (a : Asked Known) : Type 0 where
    from : GatheredFrom p.defs T ps (seen_nodes p own a)
    types : a.part.met ≡ types_of a.ask.form
    wide : (U : Text) → has_text (types_of a.ask.form) U ≡ true → has_text a.part.types U ≡ true
    means : Means own a.part.scope a.part.part.environment
    differ : Differ a.part.types

  abbrev ItemComes : Item Known → Type 0
  ItemComes (asked a) = Comes a
  ItemComes (pointed q) = Stands p own T q.body × Merge p.defs (as_nodes p own q.body ∷ [])

  -- ---- what one of them gives

  module _ (x : Known) (stands : Stands p own T x) (there : Among (as_nodes p own x) ps) where
    from_one : (a : Asked parts.Part) → Among a (parts.gather p.defs T (as_nodes p own x)) → GatheredFrom p.defs T ps a
    from_one a h =
        let g : GatheredFrom p.defs T (as_nodes p own x ∷ []) a =
        each_there (GatheredFrom p.defs T (as_nodes p own x ∷ [])) a (parts.gather p.defs T (as_nodes p own x) ++ []) (all_from p.defs sound T (as_nodes p own x ∷ []) (stands.holds, tt))
        (among_left a (parts.gather p.defs T (as_nodes p own x)) [] h) in
        record { part = g.part; among = on g.part g.among; gathered = g.gathered }
      where
        on : (q : parts.Part) → Among q (as_nodes p own x ∷ []) → Among q ps
        on q (inl e) = subst (λ (z : parts.Part). Among z ps) e there
        on q (inr h) = absurd h

    body_merges : (y : Known) → ((s : Path) → Among s (paths (fields p.defs (as_nodes p own y))) → Among s (paths (fields p.defs (as_nodes p own x)))) → Merge p.defs (as_nodes p own y ∷ [])
    body_merges y within q r (inl e) (inl f) s u h k =
        merge (as_nodes p own x) (as_nodes p own x) there there s u
        (within s (subst (λ (z : parts.Part). Among s (paths (fields p.defs z))) (sym e) h)) (within u (subst (λ (z : parts.Part). Among u (paths (fields p.defs z))) (sym f) k))
    body_merges y within q r (inl e) (inr f) s u h k = absurd f
    body_merges y within q r (inr e) f s u h k = absurd e

    item_comes : (i : Item Known) → Covers p own T (parts.gather p.defs T (as_nodes p own x)) (paths (fields p.defs (as_nodes p own x))) i → ItemComes i
    item_comes (asked a) h = record { from = from_one (seen_nodes p own a) h.among; types = h.types; wide = h.wide; means = h.means; differ = h.differ }
    item_comes (pointed q) h = (h.0, body_merges q.body h.1)

    items_come : AllByRecursion ItemComes (gather p own T x)
    items_come = each_so (Covers p own T (parts.gather p.defs T (as_nodes p own x)) (paths (fields p.defs (as_nodes p own x)))) ItemComes (gather p own T x) item_comes (items_covered p own T sound x stands)

  all_come : (xs : List Known) → AllByRecursion (Stands p own T) xs → ((q : parts.Part) → Among q (map (as_nodes p own) xs) → Among q ps) → AllByRecursion ItemComes (collect_all (gather p own) T xs)
  all_come [] stands there = tt
  all_come (x ∷ xs) stands there =
      each_append ItemComes (gather p own T x) (collect_all (gather p own) T xs) (items_come x stands.0 (there (as_nodes p own x) (inl refl))) (all_come xs stands.1 (λ q h. there q (inr h)))

  -- ---- what stands below a group

  abbrev Fitting : Text → Asked Known → Type 0
  Fitting r m = Comes m × (m.ask.response ≡ r)

  parts_seen : (ms : List (Asked Known)) → map (λ (a : Asked parts.Part). a.part) (map (seen_nodes p own) ms) ≡ map (as_nodes p own) (map (λ (m : Asked Known). m.part) ms)
  parts_seen [] = refl
  parts_seen (m ∷ ms) = ap (λ (qs : List parts.Part). as_nodes p own m.part ∷ qs) (parts_seen ms)

  merges_below : (r : Text) (ms : List (Asked Known)) → AllByRecursion (Fitting r) ms → Merge p.defs (map (as_nodes p own) (map (λ (m : Asked Known). m.part) ms))
  merges_below r ms all =
      subst (Merge p.defs) (parts_seen ms)
      (merge_below p.defs T ps merge r (map (seen_nodes p own) ms)
      (each_map (seen_nodes p own) (Fit p.defs T ps merge r) ms (each_so (Fitting r) (λ m. Fit p.defs T ps merge r (seen_nodes p own m)) ms (λ m fit. (fit.0.from, fit.1)) all)))

  stands_below : (x m : Asked Known) (U : Text) → Fitting x.ask.response m → Comes x → has_text (types_of x.ask.form) U ≡ true → Stands p own U m.part
  stands_below x m U fit comes h = record {
    means = fit.0.means;
    differ = fit.0.differ;
    here = fit.0.wide U (ap (λ (f : Form). has_text (types_of f) U) (one_form p.defs T ps merge (seen_nodes p own m) (seen_nodes p own x) fit.0.from comes.from fit.1) ∙ h);
    met = ap (λ (ts : List Text). has_text ts U)
        (fit.0.types ∙ ap types_of (one_form p.defs T ps merge (seen_nodes p own m) (seen_nodes p own x) fit.0.from comes.from fit.1)) ∙ h;
    holds = holds_below p.defs T ps merge (seen_nodes p own x) (seen_nodes p own m) U (fit.0.from, fit.1) comes.from h;
  }

  known_below : (x : Asked Known) (ms : List (Asked Known)) → AllByRecursion (Fitting x.ask.response) ms → Comes x → AreKnown p own (types_of x.ask.form) (map (λ (m : Asked Known). m.part) ms)
  known_below x ms all comes U h = (
    each_map (λ (m : Asked Known). m.part) (Stands p own U) ms (each_so (Fitting x.ask.response) (λ m. Stands p own U m.part) ms (λ m fit. stands_below x m U fit comes h) all),
    merges_below x.ask.response ms all,
  )

  group_known : (g : Group Known) → Fits Comes g → AllByRecursion (λ a. AreKnown p own (types_of a.form) (items.parts g)) (asks g)
  group_known g fits =
      each_map (λ (m : Asked Known). m.ask) (λ a. AreKnown p own (types_of a.form) (items.parts g)) (members g)
      (each_so (Fitting g.first.ask.response) (λ m. AreKnown p own (types_of m.ask.form) (items.parts g)) (members g)
      (λ x fit. known_below x (members g) (each_so (Fitting g.first.ask.response) (Fitting x.ask.response) (members g) (λ m other. (other.0, other.1 ∙ sym fit.1)) fits) fit.0)
      fits)

  body_known : (q : Pointer Known) → ItemComes (pointed q) → q.inline ≡ true → AreKnown p own (T ∷ []) (q.body ∷ [])
  body_known q h e U here = ((subst (λ (t : Text). Stands p own t q.body) (sym (only_one T U here)) h.0, tt), h.1)

pub known_holds : (p : Project) (own : Values) → AreSound p.defs → (T : Text) (types : List Text) (xs : List Known) → has_text types T ≡ true → AreKnown p own types xs
    → Holds (AreKnown p own) (gather p own) T xs
known_holds p own sound T types xs here known =
    let now = known T here in
    let ps : List parts.Part = map (as_nodes p own) xs in
    let all : List (Item Known) = collect_all (gather p own) T xs in
    let come = all_come p own sound T ps now.1 xs now.0 (λ q h. h) in
    record {
      groups = each_so (Fits (Comes p own sound T ps now.1)) (λ g. AllByRecursion (λ a. AreKnown p own (types_of a.form) (items.parts g)) (asks g)) (grouped_onto [] (asked_of all))
          (group_known p own sound T ps now.1) (onto_fits (Comes p own sound T ps now.1) (asked_of all) [] tt (each_asked (ItemComes p own sound T ps now.1) all come));
      pointers = each_so (λ q. ItemComes p own sound T ps now.1 (pointed q)) (λ q. q.inline ≡ true → AreKnown p own (T ∷ []) (q.body ∷ [])) (pointers all)
          (body_known p own sound T ps now.1) (each_pointer (ItemComes p own sound T ps now.1) all come);
    }
