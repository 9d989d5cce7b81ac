-- The ids that are noted while an entry is applied, and those of them whose slot differs in the end.
use Rattle.std.proofs.Common.{◌≡◌, ℕ, ◌+◌, ◌*◌, ◌<◌, ◌≤◌, ◌⊎◌, leb, Bool, true, false, true≢false, ◌||◌, ◌&&◌, not, cond, List, [], ◌∷◌, ◌++◌, length, append-nil, append_assoc, Option, Some, None, inl, inr, is_some, refl, sym, ap, ◌∙◌, subst, arith, bytes_eq}
use Rattle.std.proofs.lemmas.Bool.{cases_lt, le-leb, leb-true, or_parts}
use Rattle.std.proofs.lemmas.List.Sorted.{sum_by-IsPermutation}
use Rattle.std.proofs.lemmas.List.Sums.{count_by-le-length, sum_by-append, sum_by-cons, sum_by-le-sum_by}
use Rattle.std.proofs.lemmas.Map.Text.{is_eq-slice_cmp}
use Rattle.std.proofs.lemmas.Map.Views.{any-filter_same}
use Rattle.std.proofs.lemmas.Slice.Eq.{bytes_eq-Decides}
use Rattle.std.specs.Bool.{Decides}
use Rattle.std.specs.Cmp.Lexicographic.{nat_list_cmp_total, nat_list_eq_equiv}
use Rattle.std.specs.FinMap as finmap
use Rattle.std.specs.List.{count_by, filter, sum_by, Contains}
use Rattle.std.specs.List.Sorted.{IsPermutation}
use Rattle.store_conn.proofs.gql_plain_laws.SortedTexts.{has_text-Decides}
use Rattle.store_conn.specs.gql_plain.Order.{AreSortedOf, has_text}
use Rattle.store_conn.specs.store_record.Keys.{Text}
use Rattle.store_conn.specs.store_record.declared.record.Slot.{Slot}
use Rattle.store_conn.specs.store_record.declared.record.Slot.TheVariants.{Alive}
use Rattle.store_conn.specs.store_model.Records.{Records, slot_at, with_slot, with_record}
use Rattle.store_conn.specs.Changes.{put_all}
use Rattle.store_conn.specs.declared.changes.Change.{Change}
use Rattle.store_update.proofs.Equal.{slot_eq-Decides}
use Rattle.store_update.specs.Slots.{slot_eq, with_change}
use Rattle.store_update.specs.Touched.{AreNoted, ArePicked, AreTouched, IsNew, noted, ids_put, is_changed}
use Rattle.store_update.specs.Turns.{number_again, stands_again, times}

-- ---- how often an id stands in a list

pub times-append : (xs ys : List Text) (id : Text) → times (xs ++ ys) id ≡ times xs id + times ys id
times-append xs ys id = sum_by-append (λ one. cond (bytes_eq one id) 1 0) xs ys

pub times-cons : (x : Text) (xs : List Text) (id : Text) → times (x ∷ xs) id ≡ cond (bytes_eq x id) 1 0 + times xs id
times-cons x xs id = sum_by-cons (λ one. cond (bytes_eq one id) 1 0) x xs

-- an id stands there exactly if it is counted
pub not_there : (ids : List Text) (id : Text) → has_text ids id ≡ false → times ids id ≡ 0
not_there [] id h = refl
not_there (x ∷ xs) id h =
    let parts = or_parts (bytes_eq x id) (has_text xs id) h in
    omega (arith, times-cons x xs id, ap (λ b. cond {A = ℕ} b 1 0) parts.0, not_there xs id parts.1)

pub is_there : (ids : List Text) (id : Text) → has_text ids id ≡ true → 1 ≤ times ids id
is_there [] id h = absurd (true≢false (sym h))
is_there (x ∷ xs) id h = at (bytes_eq x id) refl h (λ later. is_there xs id later)
  where
    at : (b : Bool) → bytes_eq x id ≡ b → (b || has_text xs id) ≡ true → (has_text xs id ≡ true → 1 ≤ times xs id) → 1 ≤ times (x ∷ xs) id
    at true e h later = omega (arith, times-cons x xs id, ap (λ b. cond {A = ℕ} b 1 0) e)
    at false e h later = omega (arith, times-cons x xs id, later h)

-- ---- steps

slot_put : (id : Text) (s : Slot) (m : Records) (q : Text) (b : Bool) → bytes_eq id q ≡ b → slot_at q (with_slot id s m) ≡ cond b (Some s) (slot_at q m)
slot_put id s m q b e =
    finmap.get-insert nat_list_cmp_total m id s q
    ∙ ap (λ b. cond b (Some s) (finmap.get m q)) (is_eq-slice_cmp q id ∙ sym (nat_list_eq_equiv.symm id q) ∙ e)

pub noted_none : (m : Records) (ids : List Text) → AreNoted m m ids ids
noted_none m ids = record { more = λ id. omega arith; kept = λ id h. refl; differs = λ id h. absurd (omega (arith, h)) }

-- one more id, whose new slot is another one
noted_new : (id : Text) (s : Slot) (m : Records) (ids : List Text) → (slot_at id m ≡ Some s → ⊥) → AreNoted m (with_slot id s m) ids (ids ++ id ∷ [])
noted_new id s m ids other = record {
  more = λ q. omega (arith, times-append ids (id ∷ []) q);
  kept = λ q h. kept q (bytes_eq id q) refl h;
  differs = λ q h. differs q (bytes_eq id q) refl h;
}
  where
    kept : (q : Text) (b : Bool) → bytes_eq id q ≡ b → times (ids ++ id ∷ []) q ≡ times ids q → slot_at q (with_slot id s m) ≡ slot_at q m
    kept q true e h = absurd (omega (arith, times-append ids (id ∷ []) q, times-cons id [] q, ap (λ b. cond {A = ℕ} b 1 0) e, h))
    kept q false e h = slot_put id s m q false e

    differs : (q : Text) (b : Bool) → bytes_eq id q ≡ b → times (ids ++ id ∷ []) q ≡ times ids q + 1 → slot_at q (with_slot id s m) ≡ slot_at q m → ⊥
    differs q true e h stays =
        let is : id ≡ q = (bytes_eq-Decides id q).0 e in
        other (ap (λ x. slot_at x m) is ∙ sym stays ∙ slot_put id s m q true e)
    differs q false e h stays = absurd (omega (arith, times-append ids (id ∷ []) q, times-cons id [] q, ap (λ b. cond {A = ℕ} b 1 0) e, h))

pub noted_change : (id : Text) (found change : Option Slot) (m : Records) (ids : List Text) → found ≡ slot_at id m → IsNew found change
    → AreNoted m (with_change id change m) ids (noted id change ids)
noted_change id found None m ids is_found new = noted_none m ids
noted_change id found (Some s) m ids is_found new = noted_new id s m ids (λ stays. true≢false (ap is_some (new (sym stays ∙ sym is_found))))

-- an id that is noted twice may have any slot
noted_twice : (id : Text) (s : Slot) (m : Records) (ids : List Text) → AreNoted m (with_slot id s m) ids (ids ++ id ∷ id ∷ [])
noted_twice id s m ids = record {
  more = λ q. omega (arith, times-append ids (id ∷ id ∷ []) q);
  kept = λ q h. kept q (bytes_eq id q) refl h;
  differs = λ q h. differs q (bytes_eq id q) refl h;
}
  where
    both : (q : Text) (b : Bool) → bytes_eq id q ≡ b → times (ids ++ id ∷ id ∷ []) q ≡ times ids q + cond b 2 0
    both q true e = omega (arith, times-append ids (id ∷ id ∷ []) q, times-cons id (id ∷ []) q, times-cons id [] q, ap (λ b. cond {A = ℕ} b 1 0) e)
    both q false e = omega (arith, times-append ids (id ∷ id ∷ []) q, times-cons id (id ∷ []) q, times-cons id [] q, ap (λ b. cond {A = ℕ} b 1 0) e)

    kept : (q : Text) (b : Bool) → bytes_eq id q ≡ b → times (ids ++ id ∷ id ∷ []) q ≡ times ids q → slot_at q (with_slot id s m) ≡ slot_at q m
    kept q true e h = absurd (omega (arith, both q true e, h))
    kept q false e h = slot_put id s m q false e

    differs : (q : Text) (b : Bool) → bytes_eq id q ≡ b → times (ids ++ id ∷ id ∷ []) q ≡ times ids q + 1 → slot_at q (with_slot id s m) ≡ slot_at q m → ⊥
    differs q true e h = absurd (omega (arith, both q true e, h))
    differs q false e h = absurd (omega (arith, both q false e, h))

pub noted_more : (l m r : Records) (xs ys zs : List Text) → AreNoted l m xs ys → AreNoted m r ys zs → AreNoted l r xs zs
noted_more l m r xs ys zs first then = record {
  more = λ id. omega (arith, first.more id, then.more id);
  kept = λ id h.
      then.kept id (omega (arith, h, first.more id, then.more id)) ∙ first.kept id (omega (arith, h, first.more id, then.more id));
  differs = λ id h stays. differs id h stays (cases_lt (times xs id) (times ys id));
}
  where
    differs : (id : Text) → times zs id ≡ times xs id + 1 → slot_at id r ≡ slot_at id l → (times xs id < times ys id) ⊎ (times ys id ≤ times xs id) → ⊥
    differs id h stays (inl one) =
        first.differs id (omega (arith, h, one, then.more id)) (sym (then.kept id (omega (arith, h, one, then.more id))) ∙ stays)
    differs id h stays (inr none) =
        then.differs id (omega (arith, h, none, first.more id)) (stays ∙ sym (first.kept id (omega (arith, none, first.more id))))

-- ---- records that are put

puts_noted : (cs : List Change) (m : Records) (ids : List Text) → AreNoted m (put_all cs m) ids (ids ++ ids_put cs)
puts_noted [] m ids = subst (λ xs. AreNoted m m ids xs) (sym (append-nil ids)) (noted_none m ids)
puts_noted (c ∷ cs) m ids =
    let after = with_record c.id c.row m in
    let more = ids ++ c.id ∷ c.id ∷ [] in
    subst (λ xs. AreNoted m (put_all cs after) ids xs) (append_assoc ids (c.id ∷ c.id ∷ []) (ids_put cs))
    (noted_more m after (put_all cs after) ids more (more ++ ids_put cs) (noted_twice c.id (Alive c.row) m ids) (puts_noted cs after more))

pub noted_puts : (cs : List Change) (m after : Records) (ids new : List Text) → after ≡ put_all cs m → new ≡ ids ++ ids_put cs → AreNoted m after ids new
noted_puts cs m after ids new made grown =
    subst (λ r. AreNoted m r ids new) (sym made) (subst (λ xs. AreNoted m (put_all cs m) ids xs) (sym grown) (puts_noted cs m ids))

pub puts_few : (cs : List Change) → length (ids_put cs) ≡ 2 * length cs
puts_few [] = refl
puts_few (c ∷ cs) = omega (arith, puts_few cs)

-- ---- what is picked of turns

module _ (number : Text → ℕ) where
  sum_change : (id : Text) (change : Option Slot) (ids : List Text) → sum_by number (noted id change ids) ≤ sum_by number ids + sum_by number (id ∷ [])
  sum_change id None ids = omega arith
  sum_change id (Some s) ids = omega (arith, sum_by-append number ids (id ∷ []))

pub picked_change : (id : Text) (change : Option Slot) (ids : List Text) → ArePicked (id ∷ []) ids (noted id change ids)
picked_change id change ids number = sum_change number id change ids

pub picked_more : (us vs xs ys zs : List Text) → ArePicked us xs ys → ArePicked vs ys zs → ArePicked (us ++ vs) xs zs
picked_more us vs xs ys zs first then number = omega (arith, first number, then number, sum_by-append number us vs)

ones : (ids : List Text) → sum_by (λ _. 1) ids ≡ length ids
ones [] = refl
ones (x ∷ xs) = omega (arith, sum_by-cons (λ _. 1) x xs, ones xs)

pub picked_few : (ids old new : List Text) → ArePicked ids old new → length new ≤ length old + length ids
picked_few ids old new picked = omega (arith, picked (λ _. 1), ones ids, ones old, ones new)

pub again_few : (ids : List Text) → number_again ids ≤ length ids
again_few ids = count_by-le-length (stands_again ids) ids

-- what is noted of turns stands there again at most as often as they do
pub again_picked : (ids new : List Text) → ArePicked ids [] new → number_again new ≤ number_again ids
again_picked ids new picked =
    omega (
      arith,
      sum_by-le-sum_by (λ id. cond {A = ℕ} (stands_again new id) 1 0) (λ id. cond {A = ℕ} (stands_again ids id) 1 0) new least,
      picked (λ id. cond {A = ℕ} (stands_again ids id) 1 0),
    )
  where
    at : (a b : Bool) → (a ≡ true → b ≡ true) → cond {A = ℕ} a 1 0 ≤ cond {A = ℕ} b 1 0
    at true b h = omega (arith, ap (λ b. cond {A = ℕ} b 1 0) (h refl))
    at false b h = omega arith

    least : (id : Text) → cond {A = ℕ} (stands_again new id) 1 0 ≤ cond {A = ℕ} (stands_again ids id) 1 0
    least id = at (stands_again new id) (stands_again ids id) (λ h. le-leb _ _ (omega (arith, leb-true 2 (times new id) h, picked (λ one. cond {A = ℕ} (bytes_eq one id) 1 0))))

-- ---- in another order

module _ (xs ys : List Text) (moved : IsPermutation xs ys) where
  times_moved : (id : Text) → times ys id ≡ times xs id
  times_moved id = sum_by-IsPermutation (λ one. cond (bytes_eq one id) 1 0) xs ys moved

  pub again_moved : number_again ys ≡ number_again xs
  again_moved =
      (λ i. count_by (λ id. leb 2 (times_moved id i)) ys) ∙ sum_by-IsPermutation (λ id. cond (stands_again xs id) 1 0) xs ys moved

  pub noted_moved : (l m : Records) → AreNoted l m [] xs → AreNoted l m [] ys
  noted_moved l m noted = record {
    more = λ id. omega arith;
    kept = λ id h. noted.kept id (sym (times_moved id) ∙ h);
    differs = λ id h. noted.differs id (sym (times_moved id) ∙ h);
  }

-- ---- those whose slot differs

-- those that are none of none are all
pub none_out : (but ids : List Text) → but ≡ [] → filter (λ id. not (has_text but id)) ids ≡ ids
none_out but ids none = ap (λ texts. filter (λ id. not (has_text texts id)) ids) none ∙ all_left ids
  where
    all_left : (ids : List Text) → filter (λ id. not (has_text [] id)) ids ≡ ids
    all_left [] = refl
    all_left (x ∷ ids) = ap (λ xs. x ∷ xs) (all_left ids)

pub filter_alike : (p q : Text → Bool) → ((id : Text) → p id ≡ q id) → (ids : List Text) → filter p ids ≡ filter q ids
filter_alike p q same ids = λ i. filter (λ id. same id i) ids

-- an id that stands there again stands there
pub again_there : (ids : List Text) (id : Text) (b : Bool) → (has_text ids id && (stands_again ids id && b)) ≡ (stands_again ids id && b)
again_there ids id b = at (has_text ids id) refl
  where
    at : (there : Bool) → has_text ids id ≡ there → (there && (stands_again ids id && b)) ≡ (stands_again ids id && b)
    at true e = refl
    at false e = ap (λ n. leb 2 n && b) (sym (not_there ids id e))

pub has_sorted : (texts sorted : List Text) → AreSortedOf texts sorted → (id : Text) → has_text sorted id ≡ has_text texts id
has_sorted texts sorted is id = at (has_text sorted id) (has_text texts id) (has_text-Decides sorted id) (has_text-Decides texts id)
  where
    at : (a b : Bool) → Decides a (Contains sorted id) → Decides b (Contains texts id) → a ≡ b
    at true true da db = refl
    at true false da db = absurd (true≢false (sym (db.1 ((is.1 id).0 (da.0 refl)))))
    at false true da db = absurd (true≢false (sym (da.1 ((is.1 id).1 (db.0 refl)))))
    at false false da db = refl

has_filtered : (p : Text → Bool) (ids : List Text) (id : Text) → has_text (filter p ids) id ≡ (p id && has_text ids id)
has_filtered p ids id = any-filter_same (λ one. bytes_eq one id) p (p id) (λ k same. ap p ((bytes_eq-Decides k id).0 same)) ids

more_than_one : (n : ℕ) → 1 ≤ n → (n ≡ 1 → ⊥) → (1 < n) ⊎ (n ≤ 1) → 2 ≤ n
more_than_one n some other (inl more) = more
more_than_one n some other (inr few) = absurd (other (omega (arith, some, few)))

-- an id that is noted is touched, unless it is noted again and its slot is the same
pub touched_are : (before after : Records) (ids stayed touched : List Text) → AreNoted before after [] ids
    → ((id : Text) → has_text stayed id ≡ (stands_again ids id && not (is_changed before after id))) → AreSortedOf (filter (λ id. not (has_text stayed id)) ids) touched
    → AreTouched before after touched
touched_are before after ids stayed touched is_noted again sorted id = (λ h. same (sym has ∙ h), λ stays. has ∙ gone stays)
  where
    has : has_text touched id ≡ (not (has_text stayed id) && has_text ids id)
    has = has_sorted _ touched sorted id ∙ has_filtered (λ one. not (has_text stayed one)) ids id

    equal : Decides (slot_eq (slot_at id before) (slot_at id after)) (slot_at id before ≡ slot_at id after)
    equal = slot_eq-Decides (slot_at id before) (slot_at id after)

    is_same : (b e : Bool) → (b && not (not e)) ≡ true → e ≡ true
    is_same true true h = refl
    is_same true false h = h
    is_same false e h = absurd (true≢false (sym h))

    same_by : (s h : Bool) → has_text stayed id ≡ s → has_text ids id ≡ h → (not s && h) ≡ false → slot_at id after ≡ slot_at id before
    same_by true h e f none = sym (equal.0 (is_same (stands_again ids id) (slot_eq (slot_at id before) (slot_at id after)) (sym (again id) ∙ e)))
    same_by false true e f none = absurd (true≢false none)
    same_by false false e f none = is_noted.kept id (not_there ids id f)

    same : (not (has_text stayed id) && has_text ids id) ≡ false → slot_at id after ≡ slot_at id before
    same none = same_by (has_text stayed id) (has_text ids id) refl refl none

    gone_by : (s h : Bool) → has_text stayed id ≡ s → has_text ids id ≡ h → slot_at id after ≡ slot_at id before → (not s && h) ≡ false
    gone_by true h e f stays = refl
    gone_by false false e f stays = refl
    gone_by false true e f stays =
        let twice : leb 2 (times ids id) ≡ true = le-leb 2 (times ids id) (more_than_one (times ids id) (is_there ids id f) (λ one. is_noted.differs id one stays) (cases_lt 1 (times ids id))) in
        let is : has_text stayed id ≡ true = again id ∙ ap (λ b. b && not (is_changed before after id)) twice ∙ ap (λ b. not (not b)) (equal.1 (sym stays)) in
        absurd (true≢false (sym is ∙ e))

    gone : slot_at id after ≡ slot_at id before → (not (has_text stayed id) && has_text ids id) ≡ false
    gone stays = gone_by (has_text stayed id) (has_text ids id) refl refl stays
