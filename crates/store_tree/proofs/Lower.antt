-- The keys with a lower digest are the first ones in the order of the tree.
use Rattle.std.proofs.Common.{◌≡◌, ℕ, ◌+◌, ◌<◌, ◌≤◌, suc, Bool, true, false, cond, T, List, [], ◌∷◌, take, ltb, refl, sym, ap, ◌∙◌, subst, arith}
use Rattle.std.specs.Prelude.{count_by}
use Rattle.std.specs.declared.cmp.Ordering.TheVariants.{Less, Greater}
use Rattle.std.specs.Ordering.{nat_cmp, ordering_then}
use Rattle.std.specs.Cmp.{nat_cmp_is}
use Rattle.std.specs.Cmp.Lexicographic.{slice_cmp}
use Rattle.std.specs.FinMap.{is_sorted}
use Rattle.std.specs.FinMap.Entries.{below_all}
use Rattle.std.proofs.lemmas.Bool.{ltb-true, ltb-false}
use Rattle.std.proofs.lemmas.List.Sums.{sum_by-cons}
use Rattle.store_tree.specs.KeyOrder.{digest_of, key_cmp}
use Rattle.store_tree.specs.Place.{Passes}
use Rattle.store_tree.proofs.Order.{first, second, less}

-- a key with a higher digest comes later
pub later : (a b : List ℕ) → digest_of b < digest_of a → key_cmp a b ≡ Greater
unfolding key_cmp
later a b h = ap (λ o. ordering_then o (slice_cmp nat_cmp a b)) (sym (nat_cmp_is (digest_of a) (digest_of b) Greater h))

module _ {V : Type 0} (digest : ℕ) where
  abbrev is_lower : List ℕ × V → Bool
  is_lower pair = ltb (digest_of pair.0) digest

  abbrev lower : List (List ℕ × V) → ℕ
  lower pairs = count_by is_lower pairs

  counted : (e : List ℕ × V) (pairs : List (List ℕ × V)) (b : Bool) → is_lower e ≡ b → count_by is_lower (e ∷ pairs) ≡ cond b 1 0 + count_by is_lower pairs
  counted e pairs b h = sum_by-cons (λ x. cond (is_lower x) 1 0) e pairs ∙ ap (λ t. cond {A = ℕ} t 1 0 + count_by is_lower pairs) h

  -- none is lower after a key that is not
  none : (key : List ℕ) (pairs : List (List ℕ × V)) → digest ≤ digest_of key → T (below_all key_cmp key pairs) → count_by is_lower pairs ≡ 0
  none key [] h s = refl
  none key (e ∷ pairs) h s = at (none key pairs h (second _ _ s)) (is_lower e) refl
    where
      at : count_by is_lower pairs ≡ 0 → (b : Bool) → is_lower e ≡ b → count_by is_lower (e ∷ pairs) ≡ 0
      at rest true is =
          let before : key_cmp key e.0 ≡ Less = less (key_cmp key e.0) (first _ _ s) in
          let below : digest_of e.0 < digest = ltb-true (digest_of e.0) digest is in
          let after : key_cmp key e.0 ≡ Greater = later key e.0 (omega arith) in
          cc
      at rest false is = let none_more = counted e pairs false is in omega arith

-- a key comes after those with a lower digest
pub passes-lower : {V : Type 0} (key : List ℕ) (pairs : List (List ℕ × V)) → T (is_sorted key_cmp pairs) → Passes key_cmp key (take (count_by (λ pair. ltb (digest_of pair.0) (digest_of key)) pairs) pairs)
passes-lower key [] s = tt
passes-lower {V} key (e ∷ pairs) s = at (passes-lower key pairs (second _ _ s)) (is_lower (digest_of key) e) refl
  where
    at : Passes key_cmp key (take (lower (digest_of key) pairs) pairs) → (b : Bool) → is_lower (digest_of key) e ≡ b → Passes key_cmp key (take (lower (digest_of key) (e ∷ pairs)) (e ∷ pairs))
    at rest true is =
        let below : digest_of e.0 < digest_of key = ltb-true (digest_of e.0) (digest_of key) is in
        let more = counted (digest_of key) e pairs true is in
        let next : lower (digest_of key) (e ∷ pairs) ≡ suc (lower (digest_of key) pairs) = omega arith in
        subst (λ n. Passes key_cmp key (take n (e ∷ pairs))) (sym next) (later key e.0 below, rest)
    at rest false is =
        let above : digest_of key ≤ digest_of e.0 = ltb-false (digest_of e.0) (digest_of key) is in
        let all = counted (digest_of key) e pairs false is in
        let others = none (digest_of key) e.0 pairs above (first _ _ s) in
        let no : lower (digest_of key) (e ∷ pairs) ≡ 0 = omega arith in
        subst (λ n. Passes key_cmp key (take n (e ∷ pairs))) (sym no) tt
