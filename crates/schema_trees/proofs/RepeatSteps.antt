-- Names that are put into a set one after the other.
use Rattle.std.proofs.Common.{◌≡◌, ℕ, ◌+◌, ◌<◌, ◌≤◌, Bool, true, false, not, cond, ◌||◌, List, ◌∷◌, ◌++◌, map, drop, length, get_or, add-one, Option, refl, ap, sym, ◌∙◌}
use Rattle.std.proofs.Math.Seq.{drop-cons}
use Rattle.std.proofs.lemmas.List.{drop_all}
use Rattle.std.specs.BTreeSet.{BTreeSet}
use Rattle.std.specs.Str.{bytes_eq}
use Rattle.schema_tables.proofs.gql_plain_laws.Booleans.{or_false, or_swap, or_rotate}
use Rattle.schema_tables.specs.gql_plain.Order.{has_text}
use Rattle.schema_tables.proofs.gql_graph_laws.Listing.{has_either}
use Rattle.schema_tables.proofs.gql_graph_laws.TextSteps.{same_text}
use Rattle.schema_tables.specs.gql_graph.Leasts.{least_from}
use Rattle.schema_tables.specs.gql_graph.Rules.{wrong}
use Rattle.schema_tables.specs.gql_graph.Seen.{Knows}
use Rattle.schema_tables.specs.gql_graph.Texts.{Text}
use Rattle.schema_trees.specs.DefinitionParts.{repeats, names_of}
use Rattle.schema_trees.specs.Located.{Located}
use Rattle.schema_trees.specs.LocatedView.{name_of}
use Rattle.schema_trees.specs.declared.located.NameAt.{NameAt}
use denote.Ref.{Bor}

-- a name that is known already adds nothing
known_already : (now : List Text) (k n : Text) → has_text now k ≡ true → (bytes_eq k n || has_text now n) ≡ has_text now n
known_already now k n h = case (bytes_eq k n) refl where
  case : (b : Bool) → bytes_eq k n ≡ b → (b || has_text now n) ≡ has_text now n
  case true e = sym (ap (has_text now) (sym (same_text k n e)) ∙ h)
  case false e = refl

-- what is noted at one more name, and what is seen then
pub repeats_step : (new : BTreeSet (Bor (List ℕ))) (now : List Text) (n : Located) (ns : List Located) (o p : Option ℕ) (is_new : Bool)
    → Knows new (n.name ∷ now) → is_new ≡ not (has_text now n.name) → p ≡ least_from o (wrong (not is_new) n.at)
    → (then : List Text) × Knows new then × (least_from p (repeats then ns) ≡ least_from o (repeats now (n ∷ ns))) × ((m : Text) → has_text then m ≡ (bytes_eq n.name m || has_text now m))
repeats_step new now n ns o p is_new k e q = case (has_text now n.name) refl where
  case : (b : Bool) → has_text now n.name ≡ b → (then : List Text) × Knows new then × (least_from p (repeats then ns) ≡ least_from o (repeats now (n ∷ ns))) × ((m : Text) → has_text then m ≡ (bytes_eq n.name m || has_text now m))
  case true h = (
    now,
    λ m. k m ∙ known_already now n.name m h,
    ap (λ (x : Option ℕ). least_from x (repeats now ns)) (q ∙ ap (λ (b : Bool). least_from o (wrong (not b) n.at)) (e ∙ ap not h)) ∙ sym (ap (λ (b : Bool). least_from o (cond b (n.at ∷ repeats now ns) (repeats (n.name ∷ now) ns))) h),
    λ m. sym (known_already now n.name m h),
  )
  case false h = (
    n.name ∷ now,
    k,
    ap (λ (x : Option ℕ). least_from x (repeats (n.name ∷ now) ns)) (q ∙ ap (λ (b : Bool). least_from o (wrong (not b) n.at)) (e ∙ ap not h)) ∙ sym (ap (λ (b : Bool). least_from o (cond b (n.at ∷ repeats now ns) (repeats (n.name ∷ now) ns))) h),
    λ m. refl,
  )

abbrev pub texts : List NameAt → List Text
texts xs = names_of (map name_of xs)

-- what the loop over names keeps
abbrev pub Noting : BTreeSet (Bor (List ℕ)) → Option ℕ → List NameAt → (places : Option ℕ) → (known : Text → Bool) → Type 0
Noting set least left places known =
    (now : List Text) × Knows set now × (least_from least (repeats now (map name_of left)) ≡ places) × ((m : Text) → (has_text now m || has_text (texts left) m) ≡ known m)

-- one more name of a list
pub repeats_next : (new : BTreeSet (Bor (List ℕ))) (now : List Text) (xs : List NameAt) (i : ℕ) (d : NameAt) (o p : Option ℕ) (is_new : Bool) (places : Option ℕ) (known : Text → Bool) → i < length xs
    → Knows new ((get_or xs i d).name.now ∷ now) → is_new ≡ not (has_text now (get_or xs i d).name.now) → p ≡ least_from o (wrong (not is_new) (get_or xs i d).at)
    → least_from o (repeats now (map name_of (drop i xs))) ≡ places → ((m : Text) → (has_text now m || has_text (texts (drop i xs)) m) ≡ known m)
    → Noting new p (drop (i + 1) xs) places known
repeats_next new now xs i d o p is_new places known h k e q w s =
    let n : Text = (get_or xs i d).name.now in
    let r = repeats_step new now (name_of (get_or xs i d)) (map name_of (drop (i + 1) xs)) o p is_new k e q in
    let same : drop i xs ≡ get_or xs i d ∷ drop (i + 1) xs = rw add-one (drop-cons xs i d h) in (
      r.0,
      r.1,
      r.2 ∙ sym (ap (λ (ys : List NameAt). least_from o (repeats now (map name_of ys))) same) ∙ w,
      λ m.
          ap (λ (b : Bool). b || has_text (texts (drop (i + 1) xs)) m) (r.3 m) ∙ or_rotate (has_text now m) (bytes_eq n m) (has_text (texts (drop (i + 1) xs)) m)
          ∙ sym (ap (λ (ys : List NameAt). has_text now m || has_text (texts ys) m) same) ∙ s m,
    )

-- all names are seen
pub all_seen : (set : BTreeSet (Bor (List ℕ))) (least : Option ℕ) (before : List Text) (xs : List NameAt) (i : ℕ) (places : Option ℕ) → length xs ≤ i
    → Noting set least (drop i xs) places (λ m. has_text before m || has_text (texts xs) m) → Knows set (texts xs ++ before)
all_seen set least before xs i places h p = λ m.
    p.1 m ∙ sym (or_false (has_text p.0 m)) ∙ sym (ap (λ (ys : List NameAt). has_text p.0 m || has_text (texts ys) m) (drop_all i xs h)) ∙ p.3 m
    ∙ or_swap (has_text before m) (has_text (texts xs) m) ∙ sym (has_either (texts xs) before m)

-- all places are noted
pub all_noted : (set : BTreeSet (Bor (List ℕ))) (least : Option ℕ) (xs : List NameAt) (i : ℕ) (places : Option ℕ) (known : Text → Bool) → length xs ≤ i → Noting set least (drop i xs) places known → least ≡ places
all_noted set least xs i places known h p = sym (ap (λ (ys : List NameAt). least_from least (repeats p.0 (map name_of ys))) (drop_all i xs h)) ∙ p.2

-- one more name of a list is put
pub known_next : (set : BTreeSet (Bor (List ℕ))) (before : List Text) (xs : List NameAt) (i : ℕ) (d : NameAt) (whole : Text → Bool) → i < length xs
    → Knows set ((get_or xs i d).name.now ∷ before)
    → ((n : Text) → (has_text before n || has_text (names_of (map name_of (drop i xs))) n) ≡ whole n)
    → (now : List Text) × Knows set now × ((n : Text) → (has_text now n || has_text (names_of (map name_of (drop (i + 1) xs))) n) ≡ whole n)
known_next set before xs i d whole h k e =
    let same : drop i xs ≡ get_or xs i d ∷ drop (i + 1) xs = rw add-one (drop-cons xs i d h) in (
      (get_or xs i d).name.now ∷ before,
      k,
      λ n.
          or_rotate (has_text before n) (bytes_eq (get_or xs i d).name.now n) (has_text (names_of (map name_of (drop (i + 1) xs))) n)
          ∙ sym (ap (λ (ys : List NameAt). has_text before n || has_text (names_of (map name_of ys)) n) same) ∙ e n,
    )
