-- Sorted texts in groups of the same: no text of a group stands behind it.
use Rattle.std.proofs.Common.{◌≡◌, ℕ, zero, suc, ◌+◌, ◌<◌, ◌≤◌, ◌==◌, leb, not, Bool, true, false, true≢false, ◌||◌, ◌&&◌, cond, List, [], ◌∷◌, ◌++◌, length, get_or, take, drop, append-nil, Ordering, Less, Equal, Greater, refl, sym, ap, ◌∙◌, subst, arith, nat_cmp, bytes_eq}
use Rattle.std.proofs.lemmas.Bool.{and_parts, le-leb, ne_eqb, or_from, or_parts}
use Rattle.std.proofs.lemmas.List.{take-append-drop}
use Rattle.std.proofs.lemmas.List.Elements.{recursion_from_All}
use Rattle.std.proofs.lemmas.List.Folds.{list_any-append}
use Rattle.std.proofs.lemmas.List.Sorted.{sorted_far, ranks_by}
use Rattle.std.proofs.lemmas.List.Sums.{sum_by-append, sum_by-cons}
use Rattle.std.proofs.lemmas.Map.Keys.{sorted_from_all_adjacent}
use Rattle.std.proofs.lemmas.Map.Text.{is_eq-slice_cmp}
use Rattle.std.proofs.lemmas.Slice.Eq.{bytes_eq-Decides}
use Rattle.std.specs.Cmp.Lexicographic.{slice_cmp, nat_list_cmp_total, nat_list_eq_equiv}
use Rattle.std.specs.List.{AllByRecursion, IsAllAdjacentAnswer, count_by, list_all, prefix_len}
use Rattle.std.specs.List.Sorted.{IsSorted, IsStrictlySortedBy}
use Rattle.std.specs.Bool.{⊤}
use Rattle.std.specs.Ordering.{is_eq, is_lt, ordering_reverse}
use Rattle.store_conn.proofs.gql_plain_laws.Booleans.{and_false, or_false, or_true}
use Rattle.store_conn.specs.gql_plain.Order.{AreInOrder, has_text}
use Rattle.store_conn.specs.store_record.Keys.{Text}
use Rattle.store_conn.specs.store_model.Records.{Records, slot_at}
use Rattle.store_update.proofs.Noted.{is_there, not_there, times-append, times-cons}
use Rattle.store_update.proofs.Turns.{first_fails, front_passes, none_behind}
use Rattle.store_update.specs.Touched.{AreNoted, AreTouched}
use Rattle.store_update.specs.Turns.{stands_again, times}

abbrev cmp : Text → Text → Ordering
cmp = slice_cmp nat_cmp

-- ---- sorted texts

-- no text is below one before it
abbrev pub Rises : List Text → Type 0
Rises [] = ⊤
Rises (x ∷ xs) = AllByRecursion (λ (y : Text). is_lt (cmp y x) ≡ false) xs × Rises xs

rises_pairs : (xs : List Text) → ((i j : ℕ) (d : Text) → i < j → j < length xs → is_lt (cmp (get_or xs j d) (get_or xs i d)) ≡ false) → Rises xs
rises_pairs [] up = tt
rises_pairs (x ∷ xs) up = (
  recursion_from_All (λ y. is_lt (cmp y x) ≡ false) xs (λ j d inside. up zero (suc j) d (omega arith) (omega arith)),
  rises_pairs xs (λ i j d below inside. up (suc i) (suc j) d (omega arith) (omega arith)),
)

pub rises_from : (xs : List Text) → IsSorted cmp xs → Rises xs
rises_from xs sorted = rises_pairs xs (λ i j d below inside. sorted_far _ (ranks_by nat_list_cmp_total (λ a. a)) xs sorted i j d (omega arith) inside)

all_behind : (P : Text → Type 0) (n : ℕ) (xs : List Text) → AllByRecursion P xs → AllByRecursion P (drop n xs)
all_behind P zero xs all = all
all_behind P (suc n) [] all = tt
all_behind P (suc n) (x ∷ xs) all = all_behind P n xs all.1

pub rises_behind : (n : ℕ) (xs : List Text) → Rises xs → Rises (drop n xs)
rises_behind zero xs rises = rises
rises_behind (suc n) [] rises = tt
rises_behind (suc n) (x ∷ xs) rises = rises_behind n xs rises.1

-- ---- texts above another

below_next : (x h z : Text) → cmp x h ≡ Less → is_lt (cmp z h) ≡ false → cmp x z ≡ Less
below_next x h z less up = at (cmp h z) refl
  where
    at : (o : Ordering) → cmp h z ≡ o → cmp x z ≡ Less
    at Less e = nat_list_cmp_total.trans x h z less e
    at Equal e = subst (λ y. cmp x y ≡ Less) ((bytes_eq-Decides h z).0 (sym (is_eq-slice_cmp h z) ∙ ap is_eq e)) less
    at Greater e = absurd (true≢false (sym (ap is_lt (nat_list_cmp_total.antisymm z h ∙ ap ordering_reverse e)) ∙ up))

below_other : (x h : Text) → is_lt (cmp h x) ≡ false → bytes_eq h x ≡ false → cmp x h ≡ Less
below_other x h up other = at (cmp x h) refl
  where
    at : (o : Ordering) → cmp x h ≡ o → cmp x h ≡ Less
    at Less e = e
    at Equal e = absurd (true≢false (sym (ap is_eq e) ∙ is_eq-slice_cmp x h ∙ nat_list_eq_equiv.symm x h ∙ other))
    at Greater e = absurd (true≢false (sym (ap is_lt (nat_list_cmp_total.antisymm h x ∙ ap ordering_reverse e)) ∙ up))

all_below : (x h : Text) (zs : List Text) → cmp x h ≡ Less → AllByRecursion (λ (z : Text). is_lt (cmp z h) ≡ false) zs → AllByRecursion (λ (z : Text). cmp x z ≡ Less) zs
all_below x h [] less up = tt
all_below x h (z ∷ zs) less up = (below_next x h z less up.0, all_below x h zs less up.1)

none_below : (x : Text) (ys : List Text) → AllByRecursion (λ (y : Text). cmp x y ≡ Less) ys → has_text ys x ≡ false
none_below x [] above = refl
none_below x (y ∷ ys) above =
    or_from (bytes_eq y x) (has_text ys x) (nat_list_eq_equiv.symm y x ∙ sym (is_eq-slice_cmp x y) ∙ ap is_eq above.0) (none_below x ys above.1)

-- sorted texts that are not below one, the first of which is another, are all others
none_apart : (x : Text) (ys : List Text) → Rises ys → AllByRecursion (λ (y : Text). is_lt (cmp y x) ≡ false) ys → prefix_len (λ one. bytes_eq one x) ys ≡ 0 → has_text ys x ≡ false
none_apart x [] rises up apart = refl
none_apart x (y ∷ ys) rises up apart =
    let less = below_other x y up.0 (first_fails (λ one. bytes_eq one x) y ys apart) in
    none_below x (y ∷ ys) (less, all_below x y ys less rises.0)

-- ---- texts that were found to rise

less_where : (r : Ordering) → true ≡ is_lt r → r ≡ Less
less_where Less e = refl
less_where Equal e = absurd (true≢false e)
less_where Greater e = absurd (true≢false e)

strict_so : (xs : List Text) → IsAllAdjacentAnswer (λ x y b. b ≡ is_lt (cmp x y)) xs true → AreInOrder xs
unfolding IsStrictlySortedBy
strict_so [] all = tt
strict_so (x ∷ xs) all = sorted_from_all_adjacent nat_list_cmp_total (x ∷ xs) x (λ k lt. less_where (cmp (get_or (x ∷ xs) k x) (get_or (x ∷ xs) (k + 1) x)) (all k x lt))

pub strict_where : (xs : List Text) (found : Bool) → IsAllAdjacentAnswer (λ x y b. b ≡ is_lt (cmp x y)) xs found → found ≡ true → AreInOrder xs
strict_where xs found all e = strict_so xs (subst (IsAllAdjacentAnswer (λ x y b. b ≡ is_lt (cmp x y)) xs) e all)

-- texts that rise stand there once each
once : (ids : List Text) → AreInOrder ids → (id : Text) → times ids id ≤ 1
unfolding IsStrictlySortedBy
once [] order id = omega arith
once (x ∷ ids) order id = at (bytes_eq x id) refl (once ids order.1 id)
  where
    at : (b : Bool) → bytes_eq x id ≡ b → times ids id ≤ 1 → times (x ∷ ids) id ≤ 1
    at true e rest =
        let none : has_text ids id ≡ false = ap (has_text ids) (sym ((bytes_eq-Decides x id).0 e)) ∙ none_below x ids order.0 in
        omega (arith, times-cons x ids id, ap (λ b. cond {A = ℕ} b 1 0) e, not_there ids id none)
    at false e rest = omega (arith, times-cons x ids id, ap (λ b. cond {A = ℕ} b 1 0) e, rest)

-- so all that are noted are touched
pub touched_once : (before after : Records) (ids : List Text) → AreNoted before after [] ids → AreInOrder ids → AreTouched before after ids
touched_once before after ids noted order id = (λ h. noted.kept id (not_there ids id h), λ stays. at (has_text ids id) refl stays)
  where
    at : (b : Bool) → has_text ids id ≡ b → slot_at id after ≡ slot_at id before → b ≡ false
    at true e stays = absurd (noted.differs id (omega (arith, is_there ids id e, once ids order id)) stays)
    at false e stays = refl

-- ---- one group

-- what is the same as a text counts for it alone
times_same : (x id : Text) (again : List Text) → list_all (λ one. bytes_eq one x) again ≡ true → times again id ≡ cond (bytes_eq x id) (length again) 0
times_same x id [] h = at (bytes_eq x id)
  where
    at : (b : Bool) → ◌≡◌ {A = ℕ} 0 (cond b 0 0)
    at true = refl
    at false = refl
times_same x id (y ∷ again) h =
    let parts = and_parts (bytes_eq y x) (list_all (λ one. bytes_eq one x) again) h in
    let is : bytes_eq y id ≡ bytes_eq x id = ap (λ z. bytes_eq z id) ((bytes_eq-Decides y x).0 parts.0) in
    times-cons y again id ∙ at (bytes_eq x id) is (times_same x id again parts.1)
  where
    at : (b : Bool) → bytes_eq y id ≡ b → times again id ≡ cond b (length again) 0 → cond (bytes_eq y id) 1 0 + times again id ≡ cond b (length (y ∷ again)) 0
    at true e rest = omega (arith, ap (λ b. cond {A = ℕ} b 1 0) e, rest)
    at false e rest = omega (arith, ap (λ b. cond {A = ℕ} b 1 0) e, rest)

-- what passes at a text passes at all that are the same
count_same : (q : Text → Bool) (x : Text) (again : List Text) → list_all (λ one. bytes_eq one x) again ≡ true → q x ≡ true → count_by q again ≡ length again
count_same q x [] h e = refl
count_same q x (y ∷ again) h e =
    let parts = and_parts (bytes_eq y x) (list_all (λ one. bytes_eq one x) again) h in
    let is : cond {A = ℕ} (q y) 1 0 ≡ 1 = ap (λ z. cond {A = ℕ} (q z) 1 0) ((bytes_eq-Decides y x).0 parts.0) ∙ ap (λ b. cond {A = ℕ} b 1 0) e in
    omega (arith, sum_by-cons (λ z. cond {A = ℕ} (q z) 1 0) y again, is, count_same q x again parts.1 e)

same_other : (x id : Text) (again : List Text) → list_all (λ one. bytes_eq one x) again ≡ true → bytes_eq x id ≡ false → has_text again id ≡ false
same_other x id [] h other = refl
same_other x id (y ∷ again) h other =
    let parts = and_parts (bytes_eq y x) (list_all (λ one. bytes_eq one x) again) h in
    or_from (bytes_eq y id) (has_text again id) (ap (λ z. bytes_eq z id) ((bytes_eq-Decides y x).0 parts.0) ∙ other) (same_other x id again parts.1 other)

-- a text and others stand there twice exactly if there is another
two_of : (texts : List Text) → leb 2 (1 + length texts) ≡ not (length texts == 0)
two_of [] = refl
two_of (t ∷ texts) =
    le-leb 2 (1 + length (t ∷ texts)) (omega arith) ∙ ap not (sym (ne_eqb (length (t ∷ texts)) 0 (λ h. absurd (omega (arith, h)))))

-- a text and those behind it that are the same, and the others, which rise and of which none is the same
pub record IsGroup (x : Text) (again others : List Text) : Type 0 where
  pub same : list_all (λ one. bytes_eq one x) again ≡ true
  pub apart : has_text others x ≡ false

pub group_is : (x : Text) (later : List Text) (n : ℕ) → Rises (x ∷ later) → n ≡ prefix_len (λ one. bytes_eq one x) later → IsGroup x (take n later) (drop n later)
group_is x later n rises is =
    let p : Text → Bool = λ one. bytes_eq one x in
    subst (λ k. IsGroup x (take k later) (drop k later)) (sym is) (record {
      same = front_passes p later;
      apart = none_apart x (drop (prefix_len p later) later) (rises_behind (prefix_len p later) later rises.1)
          (all_behind (λ y. is_lt (cmp y x) ≡ false) (prefix_len p later) later rises.0) (none_behind p later);
    })

module _ (x : Text) (again others : List Text) (group : IsGroup x again others) where
  all_times : (id : Text) → times (x ∷ again ++ others) id ≡ cond (bytes_eq x id) (1 + length again) 0 + times others id
  all_times id = times-cons x (again ++ others) id ∙ ap (λ n. cond (bytes_eq x id) 1 0 + n) (times-append again others id) ∙ at (bytes_eq x id) (times_same x id again group.same)
    where
      at : (b : Bool) → times again id ≡ cond b (length again) 0 → cond b 1 0 + (times again id + times others id) ≡ cond b (1 + length again) 0 + times others id
      at true e = omega (arith, e)
      at false e = omega (arith, e)

  pub group_times : times (x ∷ again ++ others) x ≡ 1 + length again
  group_times = omega (arith, all_times x, ap (λ b. cond {A = ℕ} b (1 + length again) 0) ((bytes_eq-Decides x x).1 refl), not_there others x group.apart)

  other_there : (id : Text) → has_text others id ≡ true → bytes_eq x id ≡ false
  other_there id there = at (bytes_eq x id) refl
    where
      at : (b : Bool) → bytes_eq x id ≡ b → b ≡ false
      at true e = absurd (true≢false (sym there ∙ ap (has_text others) (sym ((bytes_eq-Decides x id).0 e)) ∙ group.apart))
      at false e = refl

  -- the others are counted among all as often as among themselves
  pub others_times : (id : Text) → has_text others id ≡ true → times others id ≡ times (x ∷ again ++ others) id
  others_times id there = omega (arith, all_times id, ap (λ b. cond {A = ℕ} b (1 + length again) 0) (other_there id there))

  pub others_there : (id : Text) → has_text others id ≡ true → has_text (x ∷ again ++ others) id ≡ true
  others_there id there = ap (λ b. bytes_eq x id || b) (list_any-append (λ one. bytes_eq one id) again others) ∙ at (bytes_eq x id) (has_text again id) (has_text others id) there
    where
      at : (a b c : Bool) → c ≡ true → (a || (b || c)) ≡ true
      at true b c h = refl
      at false true c h = refl
      at false false c h = h

  -- a test that passes at the text passes at the whole group
  pub group_counts : (q : Text → Bool) → q x ≡ true → count_by q (x ∷ again ++ others) ≡ 1 + length again + count_by q others
  group_counts q e =
      let number : Text → ℕ = λ z. cond {A = ℕ} (q z) 1 0 in
      omega (arith, sum_by-cons number x (again ++ others), sum_by-append number again others, ap (λ b. cond {A = ℕ} b 1 0) e, count_same q x again group.same e)

  pub others_count : (q : Text → Bool) → count_by q others ≤ count_by q (x ∷ again ++ others)
  others_count q =
      let number : Text → ℕ = λ z. cond {A = ℕ} (q z) 1 0 in
      omega (arith, sum_by-cons number x (again ++ others), sum_by-append number again others)

  -- the two looks at a text that stands there again are within its group
  pub group_looks : (q : Text → Bool) → q x ≡ not (length again == 0) → cond (length again == 0) 0 2 + count_by q others ≤ count_by q (x ∷ again ++ others)
  group_looks q e = at (length again == 0) refl
    where
      some : (texts : List Text) → (length texts == 0) ≡ false → 1 ≤ length texts
      some [] h = absurd (true≢false h)
      some (t ∷ texts) h = omega arith

      at : (b : Bool) → (length again == 0) ≡ b → cond b 0 2 + count_by q others ≤ count_by q (x ∷ again ++ others)
      at true h = omega (arith, others_count q)
      at false h = omega (arith, group_counts q (e ∙ ap not h), some again h)

  others_alone : (id : Text) → bytes_eq x id ≡ false → has_text (x ∷ again ++ others) id ≡ has_text others id
  others_alone id other =
      (λ i. other i || has_text (again ++ others) id) ∙ list_any-append (λ one. bytes_eq one id) again others
      ∙ ap (λ b. b || has_text others id) (same_other x id again group.same other)

  -- those that stayed so far, and those that will
  pub stayed_more : (p : Text → Bool) (stayed : List Text) → ((id : Text) → (has_text stayed id || (has_text (x ∷ again ++ others) id && p id)) ≡ p id)
      → (id : Text) → (has_text (stayed ++ cond (p x) (x ∷ []) []) id || (has_text others id && p id)) ≡ p id
  stayed_more p stayed so_far id = at (bytes_eq x id) refl
    where
      itself : bytes_eq x x ≡ true
      itself = (bytes_eq-Decides x x).1 refl

      here : (b : Bool) → p x ≡ b → (has_text (stayed ++ cond b (x ∷ []) []) x || (has_text others x && b)) ≡ b
      here true e =
          ap (λ c. c || (has_text others x && true))
          (list_any-append (λ one. bytes_eq one x) stayed (x ∷ []) ∙ ap (λ c. has_text stayed x || (c || false)) itself ∙ or_true (has_text stayed x))
      here false e =
          or_from (has_text (stayed ++ []) x) (has_text others x && false)
          (ap (λ xs. has_text xs x) (append-nil stayed) ∙ (or_parts (has_text stayed x) (has_text (x ∷ again ++ others) x && p x) (so_far x ∙ e)).0)
          (and_false (has_text others x))

      kept : (b : Bool) → bytes_eq x id ≡ false → has_text (stayed ++ cond b (x ∷ []) []) id ≡ has_text stayed id
      kept true other =
          list_any-append (λ one. bytes_eq one id) stayed (x ∷ []) ∙ ap (λ c. has_text stayed id || (c || false)) other ∙ or_false (has_text stayed id)
      kept false other = ap (λ xs. has_text xs id) (append-nil stayed)

      at : (b : Bool) → bytes_eq x id ≡ b → (has_text (stayed ++ cond (p x) (x ∷ []) []) id || (has_text others id && p id)) ≡ p id
      at true e =
          subst (λ y. (has_text (stayed ++ cond (p x) (x ∷ []) []) y || (has_text others y && p y)) ≡ p y) ((bytes_eq-Decides x id).0 e) (here (p x) refl)
      at false e = (λ i. kept (p x) e i || (sym (others_alone id e) i && p id)) ∙ so_far id

-- ---- one step over the groups

-- sorted texts that are left, each counted there as often as among all
pub record AreLeft (sorted rest : List Text) : Type 0 where
  pub rises : Rises rest
  pub counted : (id : Text) → has_text rest id ≡ true → times rest id ≡ times sorted id

module _ (sorted rest : List Text) (left : AreLeft sorted rest) (x : Text) (later again others : List Text) (n : ℕ) (whole : rest ≡ x ∷ later) (front : again ≡ take n later) (back : others ≡ drop n later) (is : n ≡ prefix_len (λ one. bytes_eq one x) later) where
  rises : Rises (x ∷ later)
  rises = subst Rises whole left.rises

  pub step_group : IsGroup x again others
  step_group = subst (λ os. IsGroup x again os) (sym back) (subst (λ xs. IsGroup x xs (drop n later)) (sym front) (group_is x later n rises is))

  pub step_whole : rest ≡ x ∷ again ++ others
  step_whole = whole ∙ ap (λ xs. x ∷ xs) (sym (take-append-drop n later) ∙ (λ i. sym front i ++ sym back i))

  counted : (id : Text) → has_text (x ∷ again ++ others) id ≡ true → times (x ∷ again ++ others) id ≡ times sorted id
  counted = subst (λ xs. (id : Text) → has_text xs id ≡ true → times xs id ≡ times sorted id) step_whole left.counted

  -- the first stands there again exactly if its group has another
  pub step_again : stands_again sorted x ≡ not (length again == 0)
  step_again =
      let there : has_text (x ∷ again ++ others) x ≡ true = ap (λ b. b || has_text (again ++ others) x) ((bytes_eq-Decides x x).1 refl) in
      ap (leb 2) (sym (counted x there) ∙ group_times x again others step_group) ∙ two_of again

  pub step_left : AreLeft sorted others
  step_left = record {
    rises = subst Rises (sym back) (rises_behind n later rises.1);
    counted = λ id there. others_times x again others step_group id there ∙ counted id (others_there x again others step_group id there);
  }

  pub step_looks : cond (length again == 0) 0 2 + count_by (stands_again sorted) others ≤ count_by (stands_again sorted) rest
  step_looks =
      subst (λ xs. cond (length again == 0) 0 2 + count_by (stands_again sorted) others ≤ count_by (stands_again sorted) xs) (sym step_whole)
      (group_looks x again others step_group (stands_again sorted) step_again)

  pub step_stayed : (same : Text → Bool) (stayed new : List Text)
      → ((id : Text) → (has_text stayed id || (has_text rest id && (stands_again sorted id && same id))) ≡ (stands_again sorted id && same id))
      → new ≡ stayed ++ cond (not (length again == 0) && same x) (x ∷ []) []
      → (id : Text) → (has_text new id || (has_text others id && (stands_again sorted id && same id))) ≡ (stands_again sorted id && same id)
  step_stayed same stayed new so_far grown id =
      let p : Text → Bool = λ one. stands_again sorted one && same one in
      let so_far_here : (one : Text) → (has_text stayed one || (has_text (x ∷ again ++ others) one && p one)) ≡ p one = subst (λ xs. (one : Text) → (has_text stayed one || (has_text xs one && p one)) ≡ p one) step_whole so_far in
      ap (λ xs. has_text xs id || (has_text others id && p id)) (grown ∙ ap (λ b. stayed ++ cond (b && same x) (x ∷ []) []) (sym step_again))
      ∙ stayed_more x again others step_group p stayed so_far_here id
