-- The turns of ids: commands of one id in a row take one, the rows of facts one each, and the last row goes on with the commands of its id.
use Rattle.std.proofs.Common.{◌≡◌, ℕ, zero, suc, ◌+◌, ◌≤◌, Bool, true, false, true≢false, ◌&&◌, cond, List, [], ◌∷◌, ◌++◌, map, length, take, drop, Option, Some, None, refl, sym, ap, ◌∙◌, subst, append_assoc, arith, bytes_eq}
use Rattle.std.proofs.lemmas.Bool.{and_parts}
use Rattle.std.proofs.lemmas.List.{map-append, take-append-drop}
use Rattle.std.proofs.lemmas.List.Folds.{list_all-append}
use Rattle.std.proofs.lemmas.List.Sums.{prefix_len-le-length}
use Rattle.std.proofs.lemmas.Map.Text.{is_eq-slice_cmp}
use Rattle.std.proofs.lemmas.Slice.Eq.{bytes_eq-Decides}
use Rattle.std.specs.Cmp.Lexicographic.{nat_list_eq_equiv}
use Rattle.std.specs.List.{list_all, prefix_len}
use Rattle.std.specs.List.Sorted.{IsStrictlySortedBy}
use Rattle.std.specs.Ordering.{is_eq}
use Rattle.store_conn.specs.store_record.Keys.{Text}
use Rattle.store_conn.specs.store_record.declared.field.Field.{Field}
use Rattle.store_conn.specs.store_model.FactOrder.{text_cmp}
use Rattle.store_conn.specs.store_model.FactRows.{fact_at, facts_of, facts_of_row, fields_of, put_rows, with_row}
use Rattle.store_conn.specs.store_model.Records.{Records}
use Rattle.store_conn.specs.store_model.declared.command.Command.{Command}
use Rattle.store_conn.specs.store_model.declared.entry.Entry.{Entry}
use Rattle.store_conn.specs.store_model.declared.facts.Fact.{Fact}
use Rattle.store_conn.specs.store_model.declared.facts.FactRow.{FactRow}
use Rattle.store_update.proofs.Weights.{fields_there}
use Rattle.store_update.specs.Slots.{id_of}
use Rattle.store_update.specs.Turns.{AreOf, goes_on, goes_with, is_of_record, last_id, run_behind, turn_before, turns, turns_of}

abbrev id_named : Fact → Text
id_named f = f.id

abbrev pub RowsRise : List FactRow → Type 0
RowsRise rows = IsStrictlySortedBy (λ (a b : FactRow). text_cmp a.id b.id) rows

-- ---- one more turn

same : (id : Text) → bytes_eq id id ≡ true
same id = (bytes_eq-Decides id id).1 refl

-- an id that is named again takes no turn more
turn_again : (id : Text) (ids : List Text) → turn_before id (turn_before id ids) ≡ turn_before id ids
turn_again id [] = ap (λ b. cond b (id ∷ []) (id ∷ id ∷ [])) (same id)
turn_again id (next ∷ ids) = at (bytes_eq next id) refl
  where
    at : (b : Bool) → bytes_eq next id ≡ b → turn_before id (cond b (next ∷ ids) (id ∷ next ∷ ids)) ≡ cond b (next ∷ ids) (id ∷ next ∷ ids)
    at true e = ap (λ b. cond b (next ∷ ids) (id ∷ next ∷ ids)) e
    at false e = ap (λ b. cond b (id ∷ next ∷ ids) (id ∷ id ∷ next ∷ ids)) (same id)

-- whether an id stands first
abbrev pub is_next : Text → List Text → Bool
is_next id [] = false
is_next id (next ∷ ids) = bytes_eq next id

first_stays : (id next : Text) (ids : List Text) → is_next id (turn_before next ids) ≡ bytes_eq next id
first_stays id next [] = refl
first_stays id next (h ∷ hs) = at (bytes_eq h next) refl
  where
    at : (b : Bool) → bytes_eq h next ≡ b → is_next id (cond b (h ∷ hs) (next ∷ h ∷ hs)) ≡ bytes_eq next id
    at true e = ap (λ x. bytes_eq x id) ((bytes_eq-Decides h next).0 e)
    at false e = refl

before_other : (id : Text) (ids : List Text) → is_next id ids ≡ false → turn_before id ids ≡ id ∷ ids
before_other id [] e = refl
before_other id (next ∷ ids) e = ap (λ b. cond b (next ∷ ids) (id ∷ next ∷ ids)) e

turns_apart : (id : Text) (ids : List Text) → is_next id ids ≡ false → turns (id ∷ ids) ≡ id ∷ turns ids
turns_apart id [] e = refl
turns_apart id (next ∷ ids) e = before_other id (turn_before next (turns ids)) (first_stays id next (turns ids) ∙ e)

-- ---- the elements at the front that pass

module _ {X : Type 0} (p : X → Bool) where
  pub front_passes : (xs : List X) → list_all p (take (prefix_len p xs) xs) ≡ true
  front_passes [] = refl
  front_passes (x ∷ xs) = at (p x) refl (front_passes xs)
    where
      at : (b : Bool) → p x ≡ b → list_all p (take (prefix_len p xs) xs) ≡ true → list_all p (take (cond b (1 + prefix_len p xs) 0) (x ∷ xs)) ≡ true
      at true e rest =
          let more : 1 + prefix_len p xs ≡ suc (prefix_len p xs) = omega arith in
          ap (λ n. list_all p (take n (x ∷ xs))) more ∙ ap (λ b. b && list_all p (take (prefix_len p xs) xs)) e ∙ rest
      at false e rest = refl

  pub none_behind : (xs : List X) → prefix_len p (drop (prefix_len p xs) xs) ≡ 0
  none_behind [] = refl
  none_behind (x ∷ xs) = at (p x) refl (none_behind xs)
    where
      at : (b : Bool) → p x ≡ b → prefix_len p (drop (prefix_len p xs) xs) ≡ 0 → prefix_len p (drop (cond b (1 + prefix_len p xs) 0) (x ∷ xs)) ≡ 0
      at true e rest =
          let more : 1 + prefix_len p xs ≡ suc (prefix_len p xs) = omega arith in
          ap (λ n. prefix_len p (drop n (x ∷ xs))) more ∙ rest
      at false e rest = ap (λ b. cond b (1 + prefix_len p xs) 0) e

  pub first_fails : (x : X) (xs : List X) → prefix_len p (x ∷ xs) ≡ 0 → p x ≡ false
  first_fails x xs h = at (p x) h
    where
      at : (b : Bool) → cond b (1 + prefix_len p xs) 0 ≡ 0 → b ≡ false
      at true e = absurd (omega (arith, e))
      at false e = refl

pub passes_behind : {X : Type 0} (p : X → Bool) (n : ℕ) (xs : List X) → list_all p xs ≡ true → list_all p (drop n xs) ≡ true
passes_behind p zero xs h = h
passes_behind p (suc n) [] h = refl
passes_behind p (suc n) (x ∷ xs) h = passes_behind p n xs (and_parts (p x) (list_all p xs) h).1

-- ---- commands

run_turns : (id : Text) (cs : List Command) (ids : List Text) → AreOf id cs → turns (id ∷ (map id_of cs ++ ids)) ≡ turns (id ∷ ids)
run_turns id [] ids h = refl
run_turns id (c ∷ cs) ids h =
    let parts = and_parts (goes_with id c) (list_all (goes_with id) cs) h in
    let own : id_of c ≡ id = (bytes_eq-Decides (id_of c) id).0 (and_parts (is_of_record c) (bytes_eq (id_of c) id) parts.0).1 in
    ap (λ x. turns (id ∷ x ∷ (map id_of cs ++ ids))) own ∙ turn_again id (turns (map id_of cs ++ ids)) ∙ run_turns id cs ids parts.1

next_apart : (id : Text) (cs : List Command) → list_all is_of_record cs ≡ true → prefix_len (goes_with id) cs ≡ 0 → is_next id (map id_of cs) ≡ false
next_apart id [] all h = refl
next_apart id (c ∷ cs) all h =
    ap (λ b. b && bytes_eq (id_of c) id) (sym (and_parts (is_of_record c) (list_all is_of_record cs) all).0) ∙ first_fails (goes_with id) c cs h

-- a run takes one turn, and what is left behind it its own
pub run_turn : (first : Command) (later : List Command) → list_all is_of_record (first ∷ later) ≡ true
    → turns (map id_of (first ∷ later)) ≡ id_of first ∷ turns (map id_of (drop (run_behind first later) later))
run_turn first later all =
    let id = id_of first in
    let p = goes_with id in
    let k = prefix_len p later in
    let behind = take k later in
    let after = drop k later in
    let parts = and_parts (is_of_record first) (list_all is_of_record later) all in
    ap (λ cs. turns (id ∷ map id_of cs)) (sym (take-append-drop k later))
    ∙ ap (λ ids. turns (id ∷ ids)) (map-append id_of behind after)
    ∙ run_turns id behind (map id_of after) (front_passes p later)
    ∙ turns_apart id (map id_of after) (next_apart id after (passes_behind is_of_record k later parts.1) (none_behind p later))
    ∙ ap (λ b. id ∷ turns (map id_of (drop (cond b k 0) later))) (sym parts.0)

-- what goes with the first is on its id
pub run_goes : (first : Command) (later : List Command) → AreOf (id_of first) (take (run_behind first later) later)
run_goes first later = at (is_of_record first)
  where
    at : (b : Bool) → AreOf (id_of first) (take (cond b (prefix_len (goes_with (id_of first)) later) 0) later)
    at true = front_passes (goes_with (id_of first)) later
    at false = refl

pub run_within : (first : Command) (later : List Command) → run_behind first later ≤ length later
run_within first later = at (is_of_record first)
  where
    at : (b : Bool) → cond b (prefix_len (goes_with (id_of first)) later) 0 ≤ length later
    at true = prefix_len-le-length (goes_with (id_of first)) later
    at false = omega arith

-- what stands in front of the first that does not go on with an id, and from there on
module _ (on : Option Text) (id : Text) (n : ℕ) (cs : List Command) (is : on ≡ Some id) (at : n ≡ prefix_len (goes_with id) cs) where
  pub front_on : (front : List Command) → front ≡ take n cs → list_all (goes_on on) front ≡ true
  front_on front taken =
      subst (λ x. list_all (goes_on x) front ≡ true) (sym is)
      (ap (list_all (goes_with id)) (taken ∙ ap (λ k. take k cs) at) ∙ front_passes (goes_with id) cs)

  pub behind_on : (behind : List Command) → behind ≡ drop n cs → prefix_len (goes_on on) behind ≡ 0
  behind_on behind left =
      subst (λ x. prefix_len (goes_on x) behind ≡ 0) (sym is)
      (ap (prefix_len (goes_with id)) (left ∙ ap (λ k. drop k cs) at) ∙ none_behind (goes_with id) cs)

pub none_on : (cs : List Command) → prefix_len (goes_on None) cs ≡ 0
none_on [] = refl
none_on (c ∷ cs) = refl

-- ---- rows

-- the facts of a row name its id in a row
fields_turn : (id : Text) (fields : List (Text × Field)) (ids : List Text) → turns (id ∷ (map id_named (map (fact_at id) fields) ++ ids)) ≡ turns (id ∷ ids)
fields_turn id [] ids = refl
fields_turn id (f ∷ fields) ids = turn_again id (turns (map id_named (map (fact_at id) fields) ++ ids)) ∙ fields_turn id fields ids

some_turn : (id : Text) (fields : List (Text × Field)) (ids : List Text) → 1 ≤ length fields → turns (map id_named (map (fact_at id) fields) ++ ids) ≡ turns (id ∷ ids)
some_turn id [] ids some = absurd (omega (arith, some))
some_turn id (f ∷ fields) ids some = fields_turn id fields ids

some_next : (id other : Text) (fields : List (Text × Field)) (ids : List Text) → 1 ≤ length fields → is_next other (map id_named (map (fact_at id) fields) ++ ids) ≡ bytes_eq id other
some_next id other [] ids some = absurd (omega (arith, some))
some_next id other (f ∷ fields) ids some = refl

row_turn : (r : FactRow) (facts : List Fact) (ids : List Text) → turns (map id_named (facts_of_row r ++ facts) ++ ids) ≡ turns (r.id ∷ (map id_named facts ++ ids))
row_turn r facts ids =
    ap (λ xs. turns (xs ++ ids)) (map-append id_named (facts_of_row r) facts) ∙ ap turns (append_assoc (map id_named (facts_of_row r)) (map id_named facts) ids)
    ∙ some_turn r.id (fields_of r) (map id_named facts ++ ids) (fields_there r)

row_next : (r : FactRow) (other : Text) (facts : List Fact) (ids : List Text) → is_next other (map id_named (facts_of_row r ++ facts) ++ ids) ≡ bytes_eq r.id other
row_next r other facts ids =
    ap (λ xs. is_next other (xs ++ ids)) (map-append id_named (facts_of_row r) facts)
    ∙ ap (is_next other) (append_assoc (map id_named (facts_of_row r)) (map id_named facts) ids)
    ∙ some_next r.id other (fields_of r) (map id_named facts ++ ids) (fields_there r)

pub none_goes_on : (cs : List Command) → list_all (goes_on None) cs ≡ true → cs ≡ []
none_goes_on [] h = refl
none_goes_on (c ∷ cs) h = absurd (true≢false (sym h))

-- each row takes one turn, the last one together with the commands on its id, and what is left behind them its own
pub rows_turns : (rows : List FactRow) (first later : List Command) → RowsRise rows → list_all (goes_on (last_id rows)) first ≡ true
    → prefix_len (goes_on (last_id rows)) later ≡ 0 → list_all is_of_record later ≡ true
    → turns (map id_named (facts_of rows) ++ (map id_of first ++ map id_of later)) ≡ map (λ (r : FactRow). r.id) rows ++ turns (map id_of later)
unfolding IsStrictlySortedBy
rows_turns [] first later rise on behind all = ap (λ cs. turns (map id_of cs ++ map id_of later)) (none_goes_on first on)
rows_turns (r ∷ []) first later rise on behind all =
    row_turn r [] (map id_of first ++ map id_of later) ∙ run_turns r.id first (map id_of later) on
    ∙ turns_apart r.id (map id_of later) (next_apart r.id later all behind)
rows_turns (r ∷ s ∷ rows) first later rise on behind all =
    let facts = facts_of (s ∷ rows) in
    let ids = map id_of first ++ map id_of later in
    let other : bytes_eq s.id r.id ≡ false = nat_list_eq_equiv.symm s.id r.id ∙ sym (is_eq-slice_cmp r.id s.id) ∙ ap is_eq rise.0.0 in
    row_turn r facts ids ∙ turns_apart r.id (map id_named facts ++ ids) (row_next s r.id (facts_of rows) ids ∙ other)
    ∙ ap (λ xs. r.id ∷ xs) (rows_turns (s ∷ rows) first later rise.1 on behind all)

pub last_is : (before : List FactRow) (last : FactRow) → last_id (before ++ last ∷ []) ≡ Some last.id
last_is [] last = refl
last_is (r ∷ []) last = refl
last_is (r ∷ s ∷ before) last = last_is (s ∷ before) last

pub rows_push : (before : List FactRow) (last : FactRow) (m : Records) → put_rows (before ++ last ∷ []) m ≡ with_row last (put_rows before m)
rows_push [] last m = refl
rows_push (r ∷ before) last m = rows_push before last (with_row r m)

-- ---- an entry

all_right : (p : Command → Bool) (xs ys : List Command) → list_all p (xs ++ ys) ≡ true → list_all p ys ≡ true
all_right p xs ys all = (and_parts (list_all p xs) (list_all p ys) (sym (list_all-append p xs ys) ∙ all)).1

-- the turns of an entry are those of its rows, and of what is left of its commands
module _ (e : Entry) (rows : List FactRow) (first later : List Command) (facts : facts_of rows ≡ e.facts.facts) (whole : e.commands ≡ first ++ later) where
  pub later_of_record : list_all is_of_record e.commands ≡ true → list_all is_of_record later ≡ true
  later_of_record all = all_right is_of_record first later (ap (list_all is_of_record) (sym whole) ∙ all)

  pub entry_turns : RowsRise rows → list_all (goes_on (last_id rows)) first ≡ true → prefix_len (goes_on (last_id rows)) later ≡ 0 → list_all is_of_record e.commands ≡ true
      → turns_of e ≡ map (λ (r : FactRow). r.id) rows ++ turns (map id_of later)
  entry_turns rise on behind all =
      (λ i. turns (map id_named (sym facts i) ++ map id_of (whole i))) ∙ ap (λ ids. turns (map id_named (facts_of rows) ++ ids)) (map-append id_of first later)
      ∙ rows_turns rows first later rise on behind (later_of_record all)
