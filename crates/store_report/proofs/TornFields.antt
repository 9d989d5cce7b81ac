-- Fields that are sorted by key and lose equal neighbours: where their keys do not rise, one key has two values.
use Rattle.std.proofs.Common.{◌≡◌, ◌+◌, ◌<◌, ℕ, zero, suc, Bool, true, false, true≢false, cond, not, ◌&&◌, List, [], ◌∷◌, length, get_or, filter, Ordering, Less, Equal, Greater, refl, sym, ap, ◌∙◌, subst, inl, inr, arith}
use Rattle.std.proofs.lemmas.Cmp.{nat_list_cmp_total}
use Rattle.std.proofs.lemmas.List.MinMax.{ranks_by}
use Rattle.std.proofs.lemmas.Slice.Eq.{bytes_eq-Decides}
use Rattle.std.specs.Cmp.{IsStrictWeakOrder}
use Rattle.std.specs.List.{IsAllAdjacentAnswer, dedup, dedup_from}
use Rattle.std.specs.List.Sorted.{IsPermutation, IsSorted}
use Rattle.std.specs.Ordering.{is_lt, ordering_reverse}
use Rattle.std.specs.Prelude.{◌⊎◌}
use Rattle.store_model.specs.store_record.Equal.{entry_eq, entry_eq-Decides, field_eq}
use Rattle.store_model.specs.store_record.Keys.{Text}
use Rattle.store_model.specs.store_record.declared.field.Field.{Field}
use Rattle.store_model.specs.Alike.{Among}
use Rattle.store_model.specs.FactOrder.{text_cmp}
use Rattle.store_report.proofs.Clashes.{Rising, not_true, rises}
use Rattle.store_report.proofs.RowMembers.{fields_total, same_dedup, same_moved}
use Rattle.store_report.proofs.RowSteps.{same_text}
use Rattle.store_report.proofs.SameMembers.{same_trans}
use Rattle.store_report.specs.ObjectRows.{HoldSame}
use Rattle.store_report.specs.RowFields.{AreOthers, AreTorn, DoFall, says_name}

abbrev pub Entry : Type 0
Entry = Text × Field

abbrev pub entry_cmp : Entry → Entry → Ordering
entry_cmp a b = text_cmp a.0 b.0

pub fall_of : (es : List Entry) (found : Bool) → IsAllAdjacentAnswer (λ x y b. b ≡ is_lt (entry_cmp x y)) es found → found ≡ false → DoFall es
fall_of es found all e =
    let told = subst (IsAllAdjacentAnswer (λ x y b. b ≡ is_lt (entry_cmp x y)) es) e all in
    record { at = told.0; within = told.1; fall = λ d. sym (told.2 d) }

pub entries_rank : IsStrictWeakOrder (λ (x y : Entry). is_lt (entry_cmp x y))
entries_rank = ranks_by nat_list_cmp_total (λ (e : Entry). e.0)

-- sorted, and then without equal neighbours
pub ordered_same : (given sorted kept : List Entry) → IsPermutation given sorted → kept ≡ dedup entry_eq sorted → HoldSame kept given
ordered_same given sorted kept moved once =
    same_trans kept sorted given
    (subst (λ es. HoldSame es sorted) (sym once) (same_dedup entry_eq entry_eq-Decides sorted))
    (same_moved given sorted moved)

-- ---- neighbours

-- no key stands before that of its neighbour, and no two neighbours are equal
abbrev Beside : Entry → List Entry → Type 0
Beside x [] = Unit {0}
Beside x (y ∷ ys) = (is_lt (entry_cmp y x) ≡ false) × (entry_eq y x ≡ false)

abbrev pub AreApart : List Entry → Type 0
AreApart [] = Unit {0}
AreApart (x ∷ xs) = Beside x xs × AreApart xs

beside_kept : (k x : Entry) (xs : List Entry) → is_lt (entry_cmp x k) ≡ false → entry_eq x k ≡ false → Beside k (dedup_from entry_eq x xs)
beside_kept k x [] up other = (up, other)
beside_kept k x (y ∷ ys) up other = at (entry_eq y x) (beside_kept k x ys up other)
  where
    at : (b : Bool) → Beside k (dedup_from entry_eq x ys) → Beside k (cond b (dedup_from entry_eq x ys) (x ∷ dedup_from entry_eq y ys))
    at true rest = rest
    at false rest = (up, other)

kept_apart : (k : Entry) (xs : List Entry) → Rising entry_cmp (k ∷ xs) → AreApart (dedup_from entry_eq k xs)
kept_apart k [] up = (tt, tt)
kept_apart k (x ∷ xs) up = at (entry_eq x k) refl (kept_apart k xs (up.0.1, up.1.1)) (kept_apart x xs up.1)
  where
    at : (b : Bool) → entry_eq x k ≡ b → AreApart (dedup_from entry_eq k xs) → AreApart (dedup_from entry_eq x xs)
        → AreApart (cond b (dedup_from entry_eq k xs) (k ∷ dedup_from entry_eq x xs))
    at true e same other = same
    at false e same other = (beside_kept k x xs up.0.0 e, other)

pub once_apart : (xs : List Entry) → IsSorted entry_cmp xs → AreApart (dedup entry_eq xs)
once_apart xs up = at xs (rises entry_cmp fields_total xs up)
  where
    at : (ys : List Entry) → Rising entry_cmp ys → AreApart (dedup entry_eq ys)
    at [] rising = tt
    at (y ∷ ys) rising = kept_apart y ys rising

-- ---- two values of one key

one_key : (x y : Entry) → is_lt (entry_cmp x y) ≡ false → is_lt (entry_cmp y x) ≡ false → x.0 ≡ y.0
one_key x y e f = same_text x.0 y.0 (at (text_cmp x.0 y.0) refl)
  where
    at : (o : Ordering) → text_cmp x.0 y.0 ≡ o → text_cmp x.0 y.0 ≡ Equal
    at Less h = absurd (true≢false (sym (ap is_lt h) ∙ e))
    at Equal h = h
    at Greater h = absurd (true≢false (sym (ap is_lt (nat_list_cmp_total.antisymm y.0 x.0 ∙ ap ordering_reverse h)) ∙ f))

pub values_differ : (x y : Entry) → x.0 ≡ y.0 → entry_eq x y ≡ false → field_eq x.1 y.1 ≡ false
values_differ x y same other = sym (ap (λ b. b && field_eq x.1 y.1) ((bytes_eq-Decides x.0 y.0).1 same)) ∙ other

torn_more : (x : Entry) (xs : List Entry) → AreTorn xs → AreTorn (x ∷ xs)
torn_more x xs t = record { key = t.key; one = t.one; other = t.other; here = inr t.here; there = inr t.there; differ = t.differ }

torn_first : (x y : Entry) (ys : List Entry) → is_lt (entry_cmp x y) ≡ false → Beside x (y ∷ ys) → AreTorn (x ∷ y ∷ ys)
torn_first x y ys fall beside =
    let same : x.0 ≡ y.0 = one_key x y fall beside.0 in
    record {
      key = x.0;
      one = y.1;
      other = x.1;
      here = inr (inl (λ i. (sym same i, y.1)));
      there = inl refl;
      differ = values_differ y x (sym same) beside.1;
    }

torn_at : (es : List Entry) (at : ℕ) → AreApart es → suc at < length es → ((e : Entry) → is_lt (entry_cmp (get_or es at e) (get_or es (suc at) e)) ≡ false) → AreTorn es
torn_at [] n apart lt fall = absurd (omega (arith, lt))
torn_at (x ∷ []) n apart lt fall = absurd (omega (arith, lt))
torn_at (x ∷ y ∷ ys) zero apart lt fall = torn_first x y ys (fall x) apart.0
torn_at (x ∷ y ∷ ys) (suc n) apart lt fall = torn_more x (y ∷ ys) (torn_at (y ∷ ys) n apart.1 (omega (arith, lt)) fall)

pub torn_where : (es : List Entry) → AreApart es → DoFall es → AreTorn es
torn_where es apart fall =
    let next : fall.at + 1 ≡ suc fall.at = omega arith in
    torn_at es fall.at apart (omega (arith, fall.within)) (λ e. subst (λ n. is_lt (entry_cmp (get_or es fall.at e) (get_or es n e)) ≡ false) next (fall.fall e))

-- ---- what a filter leaves

among_filter : (test : Entry → Bool) (e : Entry) (es : List Entry) → Among e (filter test es) → Among e es × (test e ≡ true)
among_filter test e [] h = absurd h
among_filter test e (x ∷ xs) h = at (test x) refl h (among_filter test e xs)
  where
    first : test x ≡ true → (x ≡ e) ⊎ Among e (filter test xs) → (Among e (filter test xs) → Among e xs × (test e ≡ true)) → Among e (x ∷ xs) × (test e ≡ true)
    first t (inl is) rest = (inl is, subst (λ y. test y ≡ true) is t)
    first t (inr k) rest = (inr (rest k).0, (rest k).1)

    at : (b : Bool) → test x ≡ b → Among e (cond b (x ∷ filter test xs) (filter test xs)) → (Among e (filter test xs) → Among e xs × (test e ≡ true)) → Among e (x ∷ xs) × (test e ≡ true)
    at true t k rest = first t k rest
    at false t k rest = (inr (rest k).0, (rest k).1)

filter_among : (test : Entry → Bool) (e : Entry) (es : List Entry) → Among e es → test e ≡ true → Among e (filter test es)
filter_among test e [] h t = absurd h
filter_among test e (x ∷ xs) (inl is) t = at (test x) (subst (λ y. test y ≡ true) (sym is) t)
  where
    at : (b : Bool) → b ≡ true → Among e (cond b (x ∷ filter test xs) (filter test xs))
    at true k = inl is
    at false k = absurd (true≢false (sym k))
filter_among test e (x ∷ xs) (inr h) t = at (test x) (filter_among test e xs h t)
  where
    at : (b : Bool) → Among e (filter test xs) → Among e (cond b (x ∷ filter test xs) (filter test xs))
    at true k = inr k
    at false k = k

pub others_left : (name : Text) (all : List Entry) → AreOthers name (filter (λ e. not (says_name name e)) all) all
others_left name all e = (
  λ h. let k = among_filter (λ x. not (says_name name x)) e all h in (k.0, not_true (says_name name e) k.1),
  λ h other. filter_among (λ x. not (says_name name x)) e all h (ap not other),
)
