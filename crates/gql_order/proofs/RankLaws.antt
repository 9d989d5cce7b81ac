-- Where ranks rise, the texts do.
use Rattle.std.proofs.Common.{◌≡◌, ◌+◌, ◌<◌, ◌++◌, ◌&&◌, ℕ, Bool, true, false, true≢false, List, [], ◌∷◌, Ordering, Less, Equal, Greater, All, get_or, is_lt, length, map, nat_cmp, nat_eq, take, drop, take-append-drop, if◌then◌else◌, eq-eqb, ltb-true, inl, inr, refl, sym, ap, ◌∙◌, subst, subst₂, arith}
use Rattle.std.proofs.lemmas.Cmp.{nat_list_cmp_total}
use Rattle.std.proofs.lemmas.List.{get_or-map, length-map}
use Rattle.std.proofs.lemmas.Map.Keys.{sorted_from_all_adjacent}
use Rattle.std.specs.Cmp.Lexicographic.{bytes_decides, pointwise}
use Rattle.std.specs.List.Sorted.{IsStrictlySortedBy}
use Rattle.std.specs.Cmp.{ranks}
use Rattle.std.specs.Ordering.{MatchOrdering, ordering_then}
use Rattle.gql_plain.specs.Order.{AreInOrder}
use Rattle.gql_order.proofs.HeadLaws.{less_by_heads, less_number, order, same_number}
use Rattle.gql_order.specs.Heads.{IsHead}
use Rattle.gql_order.specs.Ranks.{AllRanked, IsRank, RanksRise}
use Rattle.gql_order.specs.declared.heads.Ranked.{Ranked}

-- ---- texts beside what they may begin with

pub before_start : (start text rest : List ℕ) → order text start ≡ Less → order text (start ++ rest) ≡ Less
before_start [] text rest less = absurd (nothing text less)
  where
    nothing : (ts : List ℕ) → order ts [] ≡ Less → ⊥
    nothing [] e = true≢false (sym (ap is_lt e))
    nothing (x ∷ ts) e = true≢false (sym (ap is_lt e))
before_start (a ∷ start) [] rest less = refl
before_start (a ∷ start) (x ∷ text) rest less = on (nat_cmp x a) less (before_start start text rest)
  where
    on : (o : Ordering) → ordering_then o (order text start) ≡ Less → (order text start ≡ Less → order text (start ++ rest) ≡ Less) → ordering_then o (order text (start ++ rest)) ≡ Less
    on Less h more = refl
    on Equal h more = more h
    on Greater h more = h

pub behind_start : (start text rest : List ℕ) → pointwise nat_eq (take (length start) text) start ≡ false → is_lt (order text start) ≡ false → order (start ++ rest) text ≡ Less
behind_start [] text rest other not_less = absurd (true≢false other)
behind_start (a ∷ start) [] rest other not_less = absurd (true≢false not_less)
behind_start (a ∷ start) (x ∷ text) rest other not_less = on (nat_cmp a x) refl (ranks a x) (behind_start start text rest)
  where
    on : (o : Ordering) → nat_cmp a x ≡ o → MatchOrdering o (a < x) (a ≡ x) (x < a)
        → (pointwise nat_eq (take (length start) text) start ≡ false → is_lt (order text start) ≡ false → order (start ++ rest) text ≡ Less) → ordering_then (nat_cmp a x) (order (start ++ rest) text) ≡ Less
    on Less e h more = ap (λ o. ordering_then o (order (start ++ rest) text)) e
    on Equal e h more =
        ap (λ o. ordering_then o (order (start ++ rest) text)) e
        ∙ more
        (sym (ap (λ b. b && pointwise nat_eq (take (length start) text) start) (eq-eqb x a (sym h))) ∙ other)
        (sym (ap (λ o. is_lt (ordering_then o (order text start))) (same_number x a (sym h))) ∙ not_less)
    on Greater e h more = absurd (true≢false (sym (ap (λ o. is_lt (ordering_then o (order text start))) (less_number x a h)) ∙ not_less))

same_start : (start one other : List ℕ) → order one other ≡ Less → order (start ++ one) (start ++ other) ≡ Less
same_start [] one other less = less
same_start (a ∷ start) one other less = ap (λ o. ordering_then o (order (start ++ one) (start ++ other))) (same_number a a refl) ∙ same_start start one other less

-- ---- ranks

never : {A : Type 0} → Greater ≡ Less → A
never e = absurd (true≢false (sym (ap is_lt e)))

pub less_by_ranks : (start one other : List ℕ) (r s : ℕ) → IsRank start one r → IsRank start other s → r < s → order one other ≡ Less
less_by_ranks start one other r s (inl a) (inl b) lt = less_by_heads (0 ∷ one) (0 ∷ other) r s a.1 b.1 lt
less_by_ranks start one other r s (inl a) (inr (inl b)) lt = subst (λ t. order one t ≡ Less) (sym b.1.is) (a.0.less b.0)
less_by_ranks start one other r s (inl a) (inr (inr b)) lt = nat_list_cmp_total.trans one (start ++ []) other (a.0.less []) (b.0.less [])
less_by_ranks start one other r s (inr (inl a)) (inl b) lt = never (less_by_heads (1 ∷ a.0) (0 ∷ other) r s a.2 b.1 lt)
less_by_ranks start one other r s (inr (inl a)) (inr (inl b)) lt =
    subst₂ (λ t u. order t u ≡ Less) (sym a.1.is) (sym b.1.is) (same_start start a.0 b.0 (less_by_heads (1 ∷ a.0) (1 ∷ b.0) r s a.2 b.2 lt))
less_by_ranks start one other r s (inr (inl a)) (inr (inr b)) lt = subst (λ t. order t other ≡ Less) (sym a.1.is) (b.0.less a.0)
less_by_ranks start one other r s (inr (inr a)) (inl b) lt = never (less_by_heads (2 ∷ one) (0 ∷ other) r s a.1 b.1 lt)
less_by_ranks start one other r s (inr (inr a)) (inr (inl b)) lt = never (less_by_heads (2 ∷ one) (1 ∷ b.0) r s a.1 b.2 lt)
less_by_ranks start one other r s (inr (inr a)) (inr (inr b)) lt = less_by_heads (2 ∷ one) (2 ∷ other) r s a.1 b.1 lt

-- ---- the rank of a text

less_of : (o : Ordering) → is_lt o ≡ true → o ≡ Less
less_of Less e = refl
less_of Equal e = absurd (true≢false (sym e))
less_of Greater e = absurd (true≢false (sym e))

pub start_rank : (start text rest : List ℕ) (rank : ℕ) → pointwise nat_eq (take (length start) text) start ≡ true → rest ≡ drop (length start) text → IsHead (1 ∷ rest) rank → IsRank start text rank
start_rank start text rest rank same left is =
    let begins : take (length start) text ≡ start = (bytes_decides (take (length start) text) start).0 same in
    inr (inl (rest, record { is = sym (take-append-drop (length start) text) ∙ ap (λ t. t ++ drop (length start) text) begins ∙ ap (λ t. start ++ t) (sym left) }, is))

pub side_rank : (start text : List ℕ) (class rank : ℕ) → pointwise nat_eq (take (length start) text) start ≡ false → class ≡ (if is_lt (order text start) then 0 else 2) → IsHead (class ∷ text) rank → IsRank start text rank
side_rank start text class rank other side is = on (is_lt (order text start)) refl side
  where
    on : (b : Bool) → is_lt (order text start) ≡ b → class ≡ (if b then 0 else 2) → IsRank start text rank
    on true e c = inl (record { less = λ rest. before_start start text rest (less_of (order text start) e) }, subst (λ x. IsHead (x ∷ text) rank) c is)
    on false e c = inr (inr (record { less = λ rest. behind_start start text rest other e }, subst (λ x. IsHead (x ∷ text) rank) c is))

-- ---- lists

module _ {T : Type 0} (key : T → List ℕ) where
  map_twice : (ranked : List (Ranked T)) → map key (map (λ r. r.item) ranked) ≡ map (λ r. key r.item) ranked
  map_twice [] = refl
  map_twice (r ∷ ranked) = ap (λ ts. key r.item ∷ ts) (map_twice ranked)

  rise_by : (start : List ℕ) (ranked : List (Ranked T)) → AllRanked key start ranked → RanksRise ranked → AreInOrder (map (λ r. key r.item) ranked)
  unfolding IsStrictlySortedBy
  rise_by start [] all rise = tt
  rise_by start (r ∷ ranked) all rise =
      sorted_from_all_adjacent nat_list_cmp_total (map (λ q. key q.item) (r ∷ ranked)) [] (λ k lt.
      let within : k + 1 < length (r ∷ ranked) = rw length-map at lt in
      rw (get_or-map (λ q. key q.item) (r ∷ ranked) k r [] (omega (arith, within)), get_or-map (λ q. key q.item) (r ∷ ranked) (k + 1) r [] within)
      (less_by_ranks start (key (get_or (r ∷ ranked) k r).item) (key (get_or (r ∷ ranked) (k + 1) r).item) (get_or (r ∷ ranked) k r).rank (get_or (r ∷ ranked) (k + 1) r).rank
      (all k r (omega (arith, within))) (all (k + 1) r within) (ltb-true (get_or (r ∷ ranked) k r).rank (get_or (r ∷ ranked) (k + 1) r).rank (sym (rise k r within)))))

  pub texts_rise : (start : List ℕ) (ranked : List (Ranked T)) → AllRanked key start ranked → RanksRise ranked → AreInOrder (map key (map (λ r. r.item) ranked))
  texts_rise start ranked all rise = subst AreInOrder (sym (map_twice ranked)) (rise_by start ranked all rise)
