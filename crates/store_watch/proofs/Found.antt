-- The late ones, and those that the index names, have the number of each row that saw a touched id.
use Rattle.std.proofs.Common.{◌≡◌, ℕ, zero, suc, ◌<◌, ◌+◌, Bool, true, false, true≢false, ◌||◌, List, [], ◌∷◌, ◌++◌, drop, length, get_or, bytes_eq, append-nil, ◌≤◌, refl, sym, ap, subst, ◌∙◌, arith, nat_eq}
use Rattle.std.proofs.lemmas.List.{append_assoc, drop_all, drop_more}
use Rattle.std.proofs.lemmas.Slice.Eq.{bytes_eq-Decides}
use Rattle.std.specs.Cmp.Lexicographic.{nat_list_eq_equiv}
use Rattle.std.specs.List.{AllByRecursion, list_any}
use Rattle.plan_ir.specs.gql_plain.Order.{has_text}
use Rattle.plan_ir.specs.store_record.Keys.{Text}
use Rattle.store_watch.proofs.Held.{same, itself, has_append, or_left, or_right}
use Rattle.store_watch.specs.Numbers.{has, Seen, Table, named, number_at, StandsUnder, IsFound, IsComplete, IsPut, Grows}
use Rattle.store_watch.specs.Places.{passes_at}
use Rattle.store_watch.specs.Rows.{met_by, seen_of}
use Rattle.store_watch.specs.Watching.{meets}
use Rattle.store_watch.specs.declared.rows.Row.{Row}

-- ---- the numbers under touched ids

-- one touched id further
pub named_step : (table : Table) (xs touched : List Text) (i : ℕ) (id text : Text) (ns more whole : List ℕ) → xs ≡ touched → i < length xs → id ≡ get_or xs i id → text ≡ id
    → ns ++ named table (drop i touched) ≡ whole → more ≡ ns ++ table text → more ++ named table (drop (i + 1) touched) ≡ whole
named_step table xs touched i id text ns more whole same_list h is shown kept added =
    let left : drop i touched ≡ id ∷ drop (i + 1) touched = ap (drop i) (sym same_list) ∙ drop_more xs i id h ∙ (λ j. sym is j ∷ drop (i + 1) (same_list j)) in
    ap (λ m. m ++ named table (drop (i + 1) touched)) (added ∙ ap (λ t. ns ++ table t) shown)
    ∙ append_assoc ns (table id) (named table (drop (i + 1) touched)) ∙ ap (λ ys. ns ++ named table ys) (sym left) ∙ kept

pub named_end : (table : Table) (xs touched : List Text) (i : ℕ) (ns whole : List ℕ) → xs ≡ touched → length xs ≤ i → ns ++ named table (drop i touched) ≡ whole → ns ≡ whole
named_end table xs touched i ns whole same_list h kept =
    sym (append-nil ns) ∙ ap (λ ys. ns ++ named table ys) (sym (drop_all i xs h) ∙ ap (drop i) same_list) ∙ kept

named_has : (table : Table) (n : ℕ) (id : Text) (touched : List Text) → has_text touched id ≡ true → has (table id) n ≡ true → has (named table touched) n ≡ true
named_has table n id [] h k = absurd (true≢false (sym h))
named_has table n id (x ∷ touched) h k =
    elim (bytes_eq x id) as (λ b. bytes_eq x id ≡ b → (b || has_text touched id) ≡ true → has (table x ++ named table touched) n ≡ true) [
      | true ↦ λ e _. has_append (table x) (named table touched) n ∙ or_left (has (table x) n) (has (named table touched) n) (ap (λ i. has (table i) n) ((bytes_eq-Decides x id).0 e) ∙ k)
      | false ↦ λ _ later. has_append (table x) (named table touched) n ∙ or_right (has (table x) n) (has (named table touched) n) (named_has table n id touched later k)
    ] refl h

meet_named : (table : Table) (n : ℕ) (ids touched : List Text) → StandsUnder table n ids → meets ids touched ≡ true → has (named table touched) n ≡ true
meet_named table n [] touched all h = absurd (true≢false (sym h))
meet_named table n (id ∷ ids) touched all h =
    elim (has_text touched id) as (λ b. has_text touched id ≡ b → (b || meets ids touched) ≡ true → has (named table touched) n ≡ true) [
      | true ↦ λ e _. named_has table n id touched e all.0
      | false ↦ λ _ later. meet_named table n ids touched all.1 later
    ] refl h

found_has : (table : Table) (late : List ℕ) (touched : List Text) (w : Seen) → IsFound table late w → meets w.1 touched ≡ true → has (late ++ named table touched) w.0 ≡ true
found_has table late touched w found h =
    elim (has late w.0) as (λ b. has late w.0 ≡ b → has (late ++ named table touched) w.0 ≡ true) [
      | true ↦ λ e. has_append late (named table touched) w.0 ∙ or_left (has late w.0) (has (named table touched) w.0) e
      | false ↦ λ e. has_append late (named table touched) w.0 ∙ or_right (has late w.0) (has (named table touched) w.0) (meet_named table w.0 w.1 touched (found e) h)
    ] refl

-- the number of each row that saw a touched id
pub complete_has : (table : Table) (late : List ℕ) (touched : List Text) (rows : List Row) → IsComplete table late (seen_of rows)
    → (place : ℕ) → passes_at (met_by touched) rows place ≡ true → has (late ++ named table touched) (number_at (seen_of rows) place) ≡ true
complete_has table late touched [] all place h = absurd (true≢false (sym h))
complete_has table late touched (r ∷ rows) all zero h = found_has table late touched (r.number, r.kept.seen) all.0 h
complete_has table late touched (r ∷ rows) all (suc place) h = complete_has table late touched rows all.1 place h

pub passes_within : (test : Row → Bool) (rows : List Row) (place : ℕ) → passes_at test rows place ≡ true → place < length rows
passes_within test [] place h = absurd (true≢false (sym h))
passes_within test (r ∷ rows) zero h = omega arith
passes_within test (r ∷ rows) (suc place) h = let later = passes_within test rows place h in omega (arith, later)

-- ---- the places of numbers

-- of the numbers that are left, one more has its place
pub places_step : (ns : List ℕ) (i n m : ℕ) (P : Type 0) → i < length ns → n ≡ get_or ns i n → (m ≡ n → P) → (has (drop i ns) m ≡ false → P) → has (drop (i + 1) ns) m ≡ false → P
places_step ns i n m P h is here later none =
    elim (nat_eq n m) as (λ b. nat_eq n m ≡ b → P) [
      | true ↦ λ e. here (sym (same n m e))
      | false ↦ λ e. later (ap (λ xs. has xs m) (drop_more ns i n h ∙ ap (λ y. y ∷ drop (i + 1) ns) (sym is)) ∙ ap (λ b. b || has (drop (i + 1) ns) m) e ∙ none)
    ] refl

pub places_end : (ns : List ℕ) (i m : ℕ) → length ns ≤ i → has (drop i ns) m ≡ false
places_end ns i m h = ap (λ xs. has xs m) (drop_all i ns h)

-- ---- texts in common

any_or : {X : Type 0} (f g : X → Bool) (xs : List X) → list_any (λ x. f x || g x) xs ≡ (list_any f xs || list_any g xs)
any_or f g [] = refl
any_or f g (x ∷ xs) = ap (λ b. (f x || g x) || b) (any_or f g xs) ∙ swap (f x) (g x) (list_any f xs) (list_any g xs)
  where
    swap : (a b c d : Bool) → ((a || b) || (c || d)) ≡ ((a || c) || (b || d))
    swap true b c d = refl
    swap false true true d = refl
    swap false true false d = refl
    swap false false c d = refl

none_common : (ys : List Text) → list_any (λ _. false) ys ≡ false
none_common [] = refl
none_common (y ∷ ys) = none_common ys

turned : (y : Text) (xs : List Text) → has_text xs y ≡ list_any (λ x. bytes_eq y x) xs
turned y [] = refl
turned y (x ∷ xs) = λ i. nat_list_eq_equiv.symm x y i || turned y xs i

pub meets_swap : (xs ys : List Text) → meets ys xs ≡ meets xs ys
meets_swap xs [] = sym (none_common xs)
meets_swap xs (y ∷ ys) = (λ i. turned y xs i || meets_swap xs ys i) ∙ sym (any_or (λ x. bytes_eq y x) (has_text ys) xs)

-- ---- late ones that are put

pub stands_grows : (table more : Table) (n : ℕ) (ids : List Text) → Grows table more → StandsUnder table n ids → StandsUnder more n ids
stands_grows table more n [] grows all = tt
stands_grows table more n (id ∷ ids) grows all = (grows id n all.0, stands_grows table more n ids grows all.1)

-- the first of the late ones was put
found_step : (table more : Table) (late : List ℕ) (n : ℕ) (w : Seen) → Grows table more → (w.0 ≡ n → StandsUnder more n w.1) → IsFound table (n ∷ late) w → IsFound more late w
found_step table more late n w grows put found h =
    elim (nat_eq n w.0) as (λ b. nat_eq n w.0 ≡ b → (b ≡ false → StandsUnder table w.0 w.1) → StandsUnder more w.0 w.1) [
      | true ↦ λ e _. let is = sym (same n w.0 e) in subst (λ k. StandsUnder more k w.1) (sym is) (put is)
      | false ↦ λ _ later. stands_grows table more w.0 w.1 grows (later refl)
    ] refl (λ e. found (ap (λ b. b || has late w.0) e ∙ h))

complete_step : (table more : Table) (late : List ℕ) (n : ℕ) (ws : List Seen) → Grows table more → IsPut more n ws → IsComplete table (n ∷ late) ws → IsComplete more late ws
complete_step table more late n [] grows put all = tt
complete_step table more late n (w ∷ ws) grows put all = (found_step table more late n w grows put.0 all.0, complete_step table more late n ws grows put.1 all.1)

pub late_step : (table more : Table) (late : List ℕ) (i n : ℕ) (ws : List Seen) → i < length late → n ≡ get_or late i n → Grows table more → IsPut more n ws
    → IsComplete table (drop i late) ws → IsComplete more (drop (i + 1) late) ws
late_step table more late i n ws h is grows put all =
    complete_step table more (drop (i + 1) late) n ws grows put
    (subst (λ ns. IsComplete table ns ws) (drop_more late i n h ∙ ap (λ y. y ∷ drop (i + 1) late) (sym is)) all)
