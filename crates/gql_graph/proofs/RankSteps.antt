-- Where ranks rise along no link.
use Rattle.std.proofs.Common.{◌≡◌, ℕ, zero, suc, ◌+◌, ◌<◌, ◌≤◌, Bool, true, false, true≢false, cond, List, [], ◌∷◌, map, drop, length, get_or, add-one, Some, option_map, unwrap_or, bytes_eq, refl, ap, sym, subst, ◌∙◌, arith}
use Rattle.std.proofs.Math.Seq.{drop-cons}
use Rattle.std.proofs.lemmas.List.{drop_all}
use Rattle.std.proofs.lemmas.Map.Text.{is_eq-slice_cmp}
use Rattle.std.specs.BTreeMap.{is_at}
use Rattle.std.specs.Cmp.Lexicographic.{slice_cmp}
use Rattle.std.specs.List.{list_any}
use Rattle.std.specs.Map.{lookup}
use Rattle.std.specs.Ordering.{nat_cmp, is_eq}
use Rattle.gql_plain.specs.Order.{has_text}
use Rattle.gql_graph.specs.Ranks.{AllBelow, NeverRises, NoneAbove}
use Rattle.gql_graph.specs.Reached.{leads, any_leads}
use Rattle.gql_graph.specs.Texts.{Text}
use Rattle.gql_graph.proofs.TextSteps.{either_of, same_text, some_of}
use denote.Ref.{Bor}

same_rank : (rank : Text → ℕ) (n m : Text) → n ≡ m → rank m ≤ rank n
same_rank rank n m e = let same : rank n ≡ rank m = ap rank e in omega (arith, same)

-- a name leads to none of a higher rank
never_above : (rank : Text → ℕ) (next : Text → List Text) → NeverRises rank next → (k : ℕ) (n m : Text) → leads next k n m ≡ true → rank m ≤ rank n
never_above rank next s zero n m e = same_rank rank n m (same_text n m e)
never_above rank next s (suc k) n m e = either_of (bytes_eq n m) (list_any (λ x. leads next k x m) (next n)) e
    (λ g. same_rank rank n m (same_text n m g))
    (λ g. some_of (λ x. leads next k x m) (next n) g (λ x i j.
    let below : rank x ≤ rank n = s n x i in
    let further : rank m ≤ rank x = never_above rank next s k x m j in
    omega (arith, below, further)))

pub not_leading : (rank : Text → ℕ) (next : Text → List Text) → NeverRises rank next → (k : ℕ) (n m : Text) → rank n < rank m → leads next k n m ≡ false
not_leading rank next s k n m h = case (leads next k n m) refl where
  case : (b : Bool) → leads next k n m ≡ b → leads next k n m ≡ false
  case true e = let up : rank m ≤ rank n = never_above rank next s k n m e in absurd (omega (arith, up, h))
  case false e = e

-- names of a lower rank do not lead to a name
pub not_reached : (rank : Text → ℕ) (next : Text → List Text) → NeverRises rank next → (k : ℕ) (starts : List Text) (to : Text) → AllBelow rank (rank to) starts → any_leads next k starts to ≡ false
not_reached rank next s k starts to below = case (any_leads next k starts to) refl where
  case : (b : Bool) → any_leads next k starts to ≡ b → any_leads next k starts to ≡ false
  case true e = some_of (λ x. leads next k x to) starts e (λ x i j. absurd (true≢false (sym j ∙ not_leading rank next s k x to (below x i))))
  case false e = e

-- ---- names of a list, one after the other

abbrev pub texts : List (Bor (List ℕ)) → List Text
texts ns = map (λ n. n.now) ns

abbrev pub Each : (P : Text → Type 0) → List Text → Type 0
Each P ns = (m : Text) → has_text ns m ≡ true → P m

one_more : (P : Text → Type 0) (n : Text) (ns : List Text) → P n → Each P ns → Each P (n ∷ ns)
one_more P n ns h a = λ m k. either_of (bytes_eq n m) (has_text ns m) k (λ e. subst P (same_text n m e) h) (λ e. a m e)

-- one more name of a list
pub each_further : (P : Text → Type 0) (xs : List (Bor (List ℕ))) (i : ℕ) (d : Bor (List ℕ)) → i < length xs → P (get_or xs i d).now → (Each P (texts (drop i xs)) → Each P (texts xs))
    → Each P (texts (drop (i + 1) xs)) → Each P (texts xs)
each_further P xs i d h e whole rest =
    let same : drop i xs ≡ get_or xs i d ∷ drop (i + 1) xs = rw add-one (drop-cons xs i d h) in
    whole (subst (λ (ys : List (Bor (List ℕ))). Each P (texts ys)) (sym same) (one_more P (get_or xs i d).now (texts (drop (i + 1) xs)) e rest))

pub each_end : (P : Text → Type 0) (xs : List (Bor (List ℕ))) (i : ℕ) → length xs ≤ i → (Each P (texts (drop i xs)) → Each P (texts xs)) → Each P (texts xs)
each_end P xs i h whole = whole (subst (λ (ys : List (Bor (List ℕ))). Each P (texts ys)) (sym (drop_all i xs h)) (λ m k. absurd (true≢false (sym k))))

-- ---- the entries of a map of names with those that they lead to

abbrev pub BelowEach : {X : Type 0} → (rank : Text → ℕ) → (view : X → List Text) → List (Bor (List ℕ) × X) → Type 0
BelowEach rank view [] = Unit {0}
BelowEach rank view (e ∷ es) = NoneAbove rank (rank e.0.now) (view e.1) × BelowEach rank view es

same_name : (n m : Text) → is_eq (slice_cmp nat_cmp n m) ≡ true → m ≡ n
same_name n m e = sym (same_text n m (sym (is_eq-slice_cmp n m) ∙ e))

-- then what a name leads to is not above it
pub below_in : {X : Type 0} (rank : Text → ℕ) (view : X → List Text) (es : List (Bor (List ℕ) × X)) → BelowEach rank view es
    → (n : Text) → NoneAbove rank (rank n) (unwrap_or (option_map view (lookup (is_at (λ k. slice_cmp nat_cmp n k.now)) es)) [])
below_in rank view [] b n = λ m h. absurd (true≢false (sym h))
below_in {X = X} rank view (e ∷ es) b n = on (is_eq (slice_cmp nat_cmp n e.0.now)) refl (below_in rank view es b.1 n) where
  on : (t : Bool) → is_eq (slice_cmp nat_cmp n e.0.now) ≡ t → NoneAbove rank (rank n) (unwrap_or (option_map view (lookup (is_at (λ k. slice_cmp nat_cmp n k.now)) es)) [])
      → NoneAbove rank (rank n) (unwrap_or (option_map view (cond t (Some e.1) (lookup (is_at (λ k. slice_cmp nat_cmp n k.now)) es))) [])
  on true g rest = subst (λ (t : Text). NoneAbove rank (rank t) (view e.1)) (same_name n e.0.now g) b.0
  on false g rest = rest
