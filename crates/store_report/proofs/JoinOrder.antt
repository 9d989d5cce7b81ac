-- Rows in order of their ids: a list that loses equal neighbours, and rows of which those that are done rise.
use Rattle.std.proofs.Common.{◌≡◌, ◌+◌, zero, suc, Bool, true, false, true≢false, cond, List, [], ◌∷◌, ◌++◌, get_or, map, Option, Some, None, Ordering, Less, Equal, Greater, is_eq, bytes_eq, refl, sym, ap, ◌∙◌, subst, arith}
use Rattle.std.proofs.lemmas.Cmp.{nat_list_cmp_total}
use Rattle.std.proofs.lemmas.List.Elements.{recursion_from_All}
use Rattle.std.proofs.lemmas.List.MinMax.{ranks_by}
use Rattle.std.proofs.lemmas.List.Sorted.{sorted_far}
use Rattle.std.proofs.lemmas.Map.Text.{is_eq-slice_cmp}
use Rattle.std.specs.List.{dedup, dedup_from}
use Rattle.std.specs.List.Sorted.{IsSorted, IsStrictlySortedBy}
use Rattle.std.specs.Ordering.{is_lt, ordering_reverse}
use Rattle.gql_order.specs.gql_plain.Order.{AreInOrder}
use Rattle.store_model.specs.store_record.Keys.{Text}
use Rattle.store_model.proofs.Least.{Each, each_append, each_right}
use Rattle.store_model.specs.FactOrder.{text_cmp}
use Rattle.store_model.specs.declared.facts.FactRow.{FactRow}
use Rattle.store_report.proofs.RowMembers.{each_same, row_eq-Decides, rows_total, same_dedup}
use Rattle.store_report.specs.Joining.{IsBegunAt, IsBegunBelow, row_eq, row_id}
use Rattle.store_report.specs.declared.object_row.BegunRow.{BegunRow}

-- ---- rows that do not fall

-- the id does not stand behind that of the row
abbrev pub IsUpTo : Text → FactRow → Type 0
IsUpTo id r = text_cmp id r.id ≡ Greater → ⊥

-- no row stands behind one that comes later
abbrev pub DoNotFall : List FactRow → Type 0
DoNotFall [] = Unit {0}
DoNotFall (r ∷ rs) = Each (IsUpTo r.id) rs × DoNotFall rs

up_to : (a b : Text) → is_lt (text_cmp b a) ≡ false → text_cmp a b ≡ Greater → ⊥
up_to a b f g = true≢false (sym (ap is_lt (nat_list_cmp_total.antisymm b a ∙ ap ordering_reverse g)) ∙ f)

not_less : (a b : Text) → (text_cmp a b ≡ Greater → ⊥) → is_lt (text_cmp b a) ≡ false
not_less a b over = at (text_cmp b a) refl
  where
    at : (o : Ordering) → text_cmp b a ≡ o → is_lt o ≡ false
    at Less f = absurd (over (nat_list_cmp_total.antisymm a b ∙ ap ordering_reverse f))
    at Equal f = refl
    at Greater f = refl

pub not_falling : (rows : List FactRow) → IsSorted (λ a b. text_cmp a.id b.id) rows → DoNotFall rows
not_falling [] up = tt
not_falling (r ∷ rs) up = (
  recursion_from_All (IsUpTo r.id) rs (λ k d in'. up_to r.id (get_or rs k d).id
      (sorted_far (λ (a b : FactRow). is_lt (text_cmp a.id b.id)) (ranks_by rows_total (λ (x : FactRow). x)) (r ∷ rs) up 0 (suc k) d (omega arith) (omega arith))),
  not_falling rs (λ k d low in'. let e : suc k + 1 ≡ suc (k + 1) = omega arith in
      subst (λ n. is_lt (text_cmp (get_or (r ∷ rs) n d).id (get_or rs k d).id) ≡ false) e (up (suc k) d (omega arith) (omega arith))),
)

pub sorted_where : (rows : List FactRow) → DoNotFall rows → IsSorted (λ a b. text_cmp a.id b.id) rows
sorted_where [] up = λ k d low in'. absurd (omega arith)
sorted_where (r ∷ []) up = λ k d low in'. absurd (omega arith)
sorted_where (r ∷ s ∷ rs) up = at (sorted_where (s ∷ rs) up.1)
  where
    at : IsSorted (λ a b. text_cmp a.id b.id) (s ∷ rs) → IsSorted (λ a b. text_cmp a.id b.id) (r ∷ s ∷ rs)
    at rest zero d low in' = not_less r.id s.id up.0.0
    at rest (suc k) d low in' =
        let e : suc (k + 1) ≡ suc k + 1 = omega arith in
        subst (λ n. is_lt (text_cmp (get_or (r ∷ s ∷ rs) n d).id (get_or (s ∷ rs) k d).id) ≡ false) e (rest k d (omega arith) (omega arith))

-- ---- equal neighbours once

once_from : (k : FactRow) (rs : List FactRow) → Each (IsUpTo k.id) rs → DoNotFall rs → DoNotFall (dedup_from row_eq k rs)
once_from k [] all up = (tt, tt)
once_from k (r ∷ rs) all up = at (row_eq r k) (once_from k rs all.1 up.1) (once_from r rs up.0 up.1)
  where
    at : (b : Bool) → DoNotFall (dedup_from row_eq k rs) → DoNotFall (dedup_from row_eq r rs) → DoNotFall (cond b (dedup_from row_eq k rs) (k ∷ dedup_from row_eq r rs))
    at true passed kept = passed
    at false passed kept = (each_same (IsUpTo k.id) (dedup row_eq (r ∷ rs)) (r ∷ rs) (same_dedup row_eq row_eq-Decides (r ∷ rs)) all, kept)

once_up : (rows : List FactRow) → DoNotFall rows → DoNotFall (dedup row_eq rows)
once_up [] up = tt
once_up (r ∷ rs) up = once_from r rs up.0 up.1

pub once_sorted : (given kept : List FactRow) → kept ≡ dedup row_eq given → IsSorted (λ a b. text_cmp a.id b.id) given → IsSorted (λ a b. text_cmp a.id b.id) kept
once_sorted given kept once up = subst (IsSorted (λ (a b : FactRow). text_cmp a.id b.id)) (sym once) (sorted_where (dedup row_eq given) (once_up given (not_falling given up)))

-- ---- ids that rise

below_ids : (id : Text) (rows : List FactRow) → Each (λ k. text_cmp id k ≡ Less) (map row_id rows) → Each (λ r. text_cmp id r.id ≡ Less) rows
below_ids id [] all = tt
below_ids id (r ∷ rs) all = (all.0, below_ids id rs all.1)

pub rows_strict : (rows : List FactRow) → AreInOrder (map row_id rows) → IsStrictlySortedBy (λ a b. text_cmp a.id b.id) rows
unfolding IsStrictlySortedBy
rows_strict [] up = tt
rows_strict (r ∷ rs) up = (below_ids r.id rs up.0, rows_strict rs up.1)

none_rises : IsStrictlySortedBy (λ (a b : FactRow). text_cmp a.id b.id) []
unfolding IsStrictlySortedBy
none_rises = tt

one_rises : (id : Text) → AreInOrder (id ∷ [])
unfolding IsStrictlySortedBy
one_rises id = (tt, tt)

one_more : (ids : List Text) (a b : Text) → AreInOrder (ids ++ a ∷ []) → text_cmp a b ≡ Less → AreInOrder ((ids ++ a ∷ []) ++ b ∷ [])
unfolding IsStrictlySortedBy
one_more [] a b up less = ((less, tt), (tt, tt))
one_more (i ∷ ids) a b up less =
    let last : text_cmp i a ≡ Less = (each_right (λ k. text_cmp i k ≡ Less) ids (a ∷ []) up.0).0 in
    (each_append (λ k. text_cmp i k ≡ Less) (ids ++ a ∷ []) (b ∷ []) up.0 (nat_list_cmp_total.trans i a b last less, tt), one_more ids a b up.1 less)

less_where : (a b : Text) → (text_cmp a b ≡ Greater → ⊥) → bytes_eq a b ≡ false → text_cmp a b ≡ Less
less_where a b over differ = at (text_cmp a b) refl
  where
    at : (o : Ordering) → text_cmp a b ≡ o → o ≡ Less
    at Less f = refl
    at Equal f = absurd (true≢false (sym (ap is_eq f) ∙ is_eq-slice_cmp a b ∙ differ))
    at Greater f = absurd (over f)

-- ---- rows that are done, and one that is begun

-- the one that is begun is done, and another one begins
pub next_order : (whole more : List FactRow) (begun : Option BegunRow) (done next : BegunRow) (id : Text) → begun ≡ Some done → IsBegunBelow whole begun id → bytes_eq done.id id ≡ false
    → map row_id more ≡ map row_id whole ++ done.id ∷ [] → next.id ≡ id → IsBegunAt more (Some next) id
next_order whole more begun done next id is below differ ids same =
    let b : IsBegunBelow whole (Some done) id = subst (λ o. IsBegunBelow whole o id) is below in
    let up : AreInOrder ((map row_id whole ++ done.id ∷ []) ++ id ∷ []) = one_more (map row_id whole) done.id id b.0 (less_where done.id id b.1 differ) in
    (subst (λ k. AreInOrder (map row_id more ++ k ∷ [])) (sym same) (subst (λ ks. AreInOrder (ks ++ id ∷ [])) (sym ids) up), same)

-- the first one begins
pub first_order : (whole : List FactRow) (begun : Option BegunRow) (next : BegunRow) (id : Text) → begun ≡ None → IsBegunBelow whole begun id → next.id ≡ id → IsBegunAt whole (Some next) id
first_order whole begun next id is below same =
    let none : whole ≡ [] = subst (λ o. IsBegunBelow whole o id) is below in
    (subst (λ rows. AreInOrder (map row_id rows ++ next.id ∷ [])) (sym none) (one_rises next.id), same)

-- the ids of the rows that are done, and that of the one that is begun, rise; it stands behind none that is left
abbrev pub IsPlaced : List FactRow → Option BegunRow → List FactRow → Type 0
IsPlaced whole None rest = whole ≡ []
IsPlaced whole (Some b) rest = AreInOrder (map row_id whole ++ b.id ∷ []) × Each (IsUpTo b.id) rest

pub placed_below : (whole : List FactRow) (begun : Option BegunRow) (row : FactRow) (rest : List FactRow) → IsPlaced whole begun (row ∷ rest) → IsBegunBelow whole begun row.id
placed_below whole None row rest h = h
placed_below whole (Some b) row rest h = (h.0, h.1.0)

pub placed_at : (whole : List FactRow) (begun : Option BegunRow) (row : FactRow) (rest : List FactRow) → Each (IsUpTo row.id) rest → IsBegunAt whole begun row.id → IsPlaced whole begun rest
placed_at whole None row rest up h = absurd h
placed_at whole (Some b) row rest up h = (h.0, subst (λ id. Each (IsUpTo id) rest) (sym h.1) up)

pub placed_last : (whole more : List FactRow) (last : BegunRow) → IsPlaced whole (Some last) [] → map row_id more ≡ map row_id whole ++ last.id ∷ [] → IsStrictlySortedBy (λ a b. text_cmp a.id b.id) more
placed_last whole more last h ids = rows_strict more (subst AreInOrder (sym ids) h.0)

pub placed_none : (whole : List FactRow) → IsPlaced whole None [] → IsStrictlySortedBy (λ a b. text_cmp a.id b.id) whole
placed_none whole none = subst (IsStrictlySortedBy (λ (a b : FactRow). text_cmp a.id b.id)) (sym none) none_rises
