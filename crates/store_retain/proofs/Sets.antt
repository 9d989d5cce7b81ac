-- A key that is put into an ordered set.
use Rattle.std.proofs.Common.{◌≡◌, ℕ, Bool, true, false, true≢false, ◌||◌, List, [], ◌∷◌, map, Vec, Global, Bor, refl, sym, ap, ◌∙◌}
use Rattle.std.proofs.lemmas.Map.Text.{is_eq-slice_cmp}
use Rattle.std.specs.BTreeSet.{insert_key}
use Rattle.std.specs.Cmp.Lexicographic.{slice_cmp}
use Rattle.std.specs.List.{list_any}
use Rattle.std.specs.Ordering.{nat_cmp, is_eq, match_ordering, ordering_then}
use Rattle.std.specs.declared.cmp.Ordering.{Ordering}
use Rattle.std.specs.declared.cmp.Ordering.TheVariants.{Less, Equal, Greater}
use Rattle.plan_ir.proofs.gql_graph_laws.TextSteps.{same_text}
use Rattle.plan_ir.specs.store_record.Keys.{Text}
use Rattle.store_retain.proofs.Bools.{or_assoc, or_false, or_twice}
use Rattle.store_retain.specs.FoundView.{stand_of}
use Rattle.store_retain.specs.Steps.{Stand}

pub cmp_same : (a b : Text) → slice_cmp nat_cmp a b ≡ Equal → a ≡ b
cmp_same a b e = same_text a b (sym (is_eq-slice_cmp a b) ∙ ap is_eq e)

then_first : (a b : Ordering) → ordering_then a b ≡ Equal → a ≡ Equal
then_first Less b e = e
then_first Equal b e = refl
then_first Greater b e = e

then_second : (a b : Ordering) → ordering_then a b ≡ Equal → b ≡ Equal
then_second Less b e = absurd (true≢false (sym (ap is_eq e)))
then_second Equal b e = e
then_second Greater b e = absurd (true≢false (sym (ap is_eq e)))

or_swap : (a b : Bool) → (a || b) ≡ (b || a)
or_swap true true = refl
or_swap true false = refl
or_swap false true = refl
or_swap false false = refl

module _ {K X : Type 0} (cmp : K → K → Ordering) (view : K → X) (same : (k x : K) → cmp k x ≡ Equal → view k ≡ view x) (p : X → Bool) where
  step : (k x : K) (xs : List K) (o : Ordering) → cmp k x ≡ o → list_any p (map view (insert_key cmp xs k)) ≡ (list_any p (map view xs) || p (view k))
      → list_any p (map view (match_ordering o (k ∷ x ∷ xs) (x ∷ xs) (x ∷ insert_key cmp xs k))) ≡ ((p (view x) || list_any p (map view xs)) || p (view k))
  step k x xs Less e rest = or_swap (p (view k)) (p (view x) || list_any p (map view xs))
  step k x xs Equal e rest = or_twice (p (view x)) (list_any p (map view xs)) ∙ ap (λ v. (p (view x) || list_any p (map view xs)) || p v) (sym (same k x e))
  step k x xs Greater e rest = ap (λ b. p (view x) || b) rest ∙ sym (or_assoc (p (view x)) (list_any p (map view xs)) (p (view k)))

  pub any_insert : (xs : List K) (k : K) → list_any p (map view (insert_key cmp xs k)) ≡ (list_any p (map view xs) || p (view k))
  any_insert [] k = or_false (p (view k))
  any_insert (x ∷ xs) k = step k x xs (cmp k x) refl (any_insert xs k)

pub any_text : (p : Text → Bool) (xs : List (Bor (List ℕ))) (k : Bor (List ℕ)) → list_any p (map (λ y. y.now) (insert_key (λ x y. slice_cmp nat_cmp x.now y.now) xs k)) ≡ (list_any p (map (λ y. y.now) xs) || p k.now)
any_text p = any_insert (λ x y. slice_cmp nat_cmp x.now y.now) (λ y. y.now) (λ k x e. cmp_same k.now x.now e) p

pub any_stand : (p : Stand → Bool) (xs : List (Bor (List ℕ) × Vec ℕ Global)) (k : Bor (List ℕ) × Vec ℕ Global)
    → list_any p (map stand_of (insert_key (λ x y. ordering_then (slice_cmp nat_cmp x.0.now y.0.now) (slice_cmp nat_cmp x.1.items y.1.items)) xs k)) ≡ (list_any p (map stand_of xs) || p (stand_of k))
any_stand p =
    any_insert (λ x y. ordering_then (slice_cmp nat_cmp x.0.now y.0.now) (slice_cmp nat_cmp x.1.items y.1.items)) stand_of
    (λ k x e. (λ i. (cmp_same k.0.now x.0.now (then_first (slice_cmp nat_cmp k.0.now x.0.now) (slice_cmp nat_cmp k.1.items x.1.items) e) i, cmp_same k.1.items x.1.items (then_second (slice_cmp nat_cmp k.0.now x.0.now) (slice_cmp nat_cmp k.1.items x.1.items) e) i))) p
