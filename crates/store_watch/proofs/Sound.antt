-- What changes of the rows and of the index leave sound.
use Rattle.std.proofs.Common.{◌≡◌, ℕ, zero, suc, ◌<◌, ◌≤◌, ◌+◌, Bool, true, false, true≢false, cond, ◌||◌, List, [], ◌∷◌, ◌++◌, map, length, Option, Some, None, String, Global, refl, sym, ap, subst, ◌∙◌, arith, nat_eq}
use Rattle.std.specs.List.{AllByRecursion}
use Rattle.std.specs.Map.{remove_entry, values_of}
use Rattle.store_read.specs.declared.snapshot.Snapshot.{Snapshot}
use Rattle.plan_ir.specs.store_record.Keys.{Text}
use Rattle.store_watch.proofs.Found.{stands_grows}
use Rattle.store_watch.proofs.Held.{has_append, has_first, or_right}
use Rattle.store_watch.specs.Numbers.{has, noted, Rises, Seen, numbers_of, number_at, seen_at, Table, IsFound, IsComplete, Grows}
use Rattle.store_watch.specs.Rows.{IsNumberAt, IsSound, seen_of, with_snapshot}
use Rattle.store_watch.specs.declared.rows.Row.{Row}

abbrev Named : Type 0
Named = List (String Global × Row)

-- what is not in the longer list is not in the shorter
not_left : (a b : Bool) → (a || b) ≡ false → a ≡ false
not_left true b h = absurd (true≢false h)
not_left false b h = refl

lags_less : (late more : List ℕ) (n : ℕ) → has (late ++ more) n ≡ false → has late n ≡ false
lags_less late more n h = not_left (has late n) (has more n) (sym (has_append late more n) ∙ h)

complete_more : (table : Table) (late more : List ℕ) (ws : List Seen) → IsComplete table late ws → IsComplete table (late ++ more) ws
complete_more table late more [] all = tt
complete_more table late more (w ∷ ws) all = ((λ h. all.0 (lags_less late more w.0 h)), complete_more table late more ws all.1)

-- one that lags is found
lagging : (table : Table) (late : List ℕ) (ids : List Text) (n : ℕ) → IsFound table (late ++ n ∷ []) (n, ids)
lagging table late ids n h = absurd (true≢false (sym (has_append late (n ∷ []) n ∙ or_right (has late n) (has (n ∷ []) n) (has_first n [])) ∙ h))

-- ---- a start

seen_append : (rows more : List Row) → seen_of (rows ++ more) ≡ seen_of rows ++ seen_of more
seen_append [] more = refl
seen_append (r ∷ rows) more = ap (λ ws. (r.number, r.kept.seen) ∷ ws) (seen_append rows more)

values_append : (es fs : Named) → values_of (es ++ fs) ≡ values_of es ++ values_of fs
values_append [] fs = refl
values_append (e ∷ es) fs = ap (λ rs. e.1 ∷ rs) (values_append es fs)

complete_push : (table : Table) (late : List ℕ) (ids : List Text) (n : ℕ) (ws : List Seen) → IsComplete table late ws → IsComplete table (late ++ n ∷ []) (ws ++ (n, ids) ∷ [])
complete_push table late ids n [] all = (lagging table late ids n, tt)
complete_push table late ids n (w ∷ ws) all = ((λ h. all.0 (lags_less late (n ∷ []) w.0 h)), complete_push table late ids n ws all.1)

below_push : (next n : ℕ) (ids : List Text) (ws : List Seen) → n < next → AllByRecursion (λ (w : Seen). w.0 < n) ws → AllByRecursion (λ (w : Seen). w.0 < next) (ws ++ (n, ids) ∷ [])
below_push next n ids [] h all = (h, tt)
below_push next n ids (w ∷ ws) h all = let here = all.0 in (omega (arith, h, here), below_push next n ids ws h all.1)

above_push : (x n : ℕ) (ids : List Text) (ws : List Seen) → x < n → AllByRecursion (λ y. x < y) (numbers_of ws) → AllByRecursion (λ y. x < y) (numbers_of (ws ++ (n, ids) ∷ []))
above_push x n ids [] h all = (h, tt)
above_push x n ids (w ∷ ws) h all = (all.0, above_push x n ids ws h all.1)

rises_push : (n : ℕ) (ids : List Text) (ws : List Seen) → AllByRecursion (λ (w : Seen). w.0 < n) ws → Rises (numbers_of ws) → Rises (numbers_of (ws ++ (n, ids) ∷ []))
rises_push n ids [] all up = (tt, tt)
rises_push n ids (w ∷ ws) all up = (above_push w.0 n ids ws all.0 up.0, rises_push n ids ws all.1 up.1)

sound_push : (table : Table) (late late2 : List ℕ) (all all2 : Bool) (n next : ℕ) (ids : List Text) (ws : List Seen) → n < next
    → (all2 ≡ false → all ≡ false) → (all2 ≡ false → late2 ≡ late ++ n ∷ []) → IsSound table late all n ws → IsSound table late2 all2 next (ws ++ (n, ids) ∷ [])
sound_push table late late2 all all2 n next ids ws h kept lists s = record {
  complete = λ e. subst (λ l. IsComplete table l (ws ++ (n, ids) ∷ [])) (sym (lists e)) (complete_push table late ids n ws (s.complete (kept e)));
  rises = rises_push n ids ws s.below s.rises;
  below = below_push next n ids ws h s.below;
}

-- a row at the end, whose number is noted
pub sound_start : (table : Table) (late late2 : List ℕ) (all all2 : Bool) (next : ℕ) (es fs : Named) (name : String Global) (r : Row) → r.number < next → fs ≡ es ++ (name, r) ∷ []
    → (all2 ≡ false → all ≡ false) → (all2 ≡ false → late2 ≡ late ++ noted (Some r.number)) → IsSound table late all r.number (seen_of (values_of es)) → IsSound table late2 all2 next (seen_of (values_of fs))
sound_start table late late2 all all2 next es fs name r h put kept lists s =
    subst (IsSound table late2 all2 next) (sym (ap (λ gs. seen_of (values_of gs)) put ∙ ap seen_of (values_append es ((name, r) ∷ [])) ∙ seen_append (values_of es) (r ∷ [])))
    (sound_push table late late2 all all2 r.number next r.kept.seen (seen_of (values_of es)) h kept lists s)

-- ---- a stop

module _ (test : String Global → Bool) where
  all_taken : (P : Seen → Type 0) (b : Bool) (w : Seen) (ws vs : List Seen) → P w → AllByRecursion P ws → AllByRecursion P vs → AllByRecursion P (cond b ws (w ∷ vs))
  all_taken P true w ws vs here all left = all
  all_taken P false w ws vs here all left = (here, left)

  cond_seen : (b : Bool) (e : String Global × Row) (es fs : Named) → seen_of (values_of (cond b es (e ∷ fs))) ≡ cond b (seen_of (values_of es)) ((e.1.number, e.1.kept.seen) ∷ seen_of (values_of fs))
  cond_seen true e es fs = refl
  cond_seen false e es fs = refl

  all_without : (P : Seen → Type 0) (es : Named) → AllByRecursion P (seen_of (values_of es)) → AllByRecursion P (seen_of (values_of (remove_entry test es)))
  all_without P [] all = tt
  all_without P (e ∷ es) all =
      subst (AllByRecursion P) (sym (cond_seen (test e.0) e es (remove_entry test es)))
      (all_taken P (test e.0) (e.1.number, e.1.kept.seen) (seen_of (values_of es)) (seen_of (values_of (remove_entry test es))) all.0 all.1 (all_without P es all.1))

  above_all : (x : ℕ) (ws : List Seen) → AllByRecursion (λ y. x < y) (numbers_of ws) → AllByRecursion (λ (w : Seen). x < w.0) ws
  above_all x [] all = tt
  above_all x (w ∷ ws) all = (all.0, above_all x ws all.1)

  all_above : (x : ℕ) (ws : List Seen) → AllByRecursion (λ (w : Seen). x < w.0) ws → AllByRecursion (λ y. x < y) (numbers_of ws)
  all_above x [] all = tt
  all_above x (w ∷ ws) all = (all.0, all_above x ws all.1)

  rises_taken : (b : Bool) (w : Seen) (ws vs : List Seen) → Rises (numbers_of ws) → AllByRecursion (λ y. w.0 < y) (numbers_of vs) → Rises (numbers_of vs) → Rises (numbers_of (cond b ws (w ∷ vs)))
  rises_taken true w ws vs up above left = up
  rises_taken false w ws vs up above left = (above, left)

  rises_without : (es : Named) → Rises (numbers_of (seen_of (values_of es))) → Rises (numbers_of (seen_of (values_of (remove_entry test es))))
  rises_without [] up = tt
  rises_without (e ∷ es) up =
      let left = seen_of (values_of (remove_entry test es)) in
      subst (λ ws. Rises (numbers_of ws)) (sym (cond_seen (test e.0) e es (remove_entry test es)))
      (rises_taken (test e.0) (e.1.number, e.1.kept.seen) (seen_of (values_of es)) left up.1
      (all_above e.1.number left (all_without (λ (w : Seen). e.1.number < w.0) es (above_all e.1.number (seen_of (values_of es)) up.0))) (rises_without es up.1))

  pub sound_stop : (table : Table) (late : List ℕ) (all : Bool) (next : ℕ) (es fs : Named) → fs ≡ remove_entry test es
      → IsSound table late all next (seen_of (values_of es)) → IsSound table late all next (seen_of (values_of fs))
  sound_stop table late all next es fs is s =
      subst (λ gs. IsSound table late all next (seen_of (values_of gs))) (sym is) (record {
        complete = λ e. all_without (IsFound table late) es (s.complete e);
        rises = rises_without es s.rises;
        below = all_without (λ (w : Seen). w.0 < next) es s.below;
      })

-- ---- a snapshot in place of another

numbers_with : (s : Snapshot) (es : Named) (k : ℕ) → numbers_of (seen_of (values_of (with_snapshot es k s))) ≡ numbers_of (seen_of (values_of es))
numbers_with s [] k = refl
numbers_with s (e ∷ es) zero = refl
numbers_with s (e ∷ es) (suc k) = ap (λ ns. e.1.number ∷ ns) (numbers_with s es k)

below_with : (next : ℕ) (s : Snapshot) (es : Named) (k : ℕ) → AllByRecursion (λ (w : Seen). w.0 < next) (seen_of (values_of es)) → AllByRecursion (λ (w : Seen). w.0 < next) (seen_of (values_of (with_snapshot es k s)))
below_with next s [] k all = tt
below_with next s (e ∷ es) zero all = (all.0, all.1)
below_with next s (e ∷ es) (suc k) all = (all.0, below_with next s es k all.1)

complete_with : (table : Table) (late : List ℕ) (s : Snapshot) (es : Named) (k : ℕ) (number : Option ℕ) → IsNumberAt (seen_of (values_of es)) k s.seen number
    → IsComplete table late (seen_of (values_of es)) → IsComplete table (late ++ noted number) (seen_of (values_of (with_snapshot es k s)))
complete_with table late s [] k number is all = tt
complete_with table late s (e ∷ es) zero None is all =
    (subst (λ ids. IsFound table (late ++ []) (e.1.number, ids)) (sym is) (λ h. all.0 (lags_less late [] e.1.number h)), complete_more table late [] (seen_of (values_of es)) all.1)
complete_with table late s (e ∷ es) zero (Some n) is all =
    (subst (λ j. IsFound table (late ++ j ∷ []) (e.1.number, s.seen)) (sym is) (lagging table late s.seen e.1.number), complete_more table late (n ∷ []) (seen_of (values_of es)) all.1)
complete_with table late s (e ∷ es) (suc k) None is all = ((λ h. all.0 (lags_less late [] e.1.number h)), complete_with table late s es k None is all.1)
complete_with table late s (e ∷ es) (suc k) (Some n) is all = ((λ h. all.0 (lags_less late (n ∷ []) e.1.number h)), complete_with table late s es k (Some n) is all.1)

pub sound_keep : (table : Table) (late late2 : List ℕ) (all all2 : Bool) (next k : ℕ) (s : Snapshot) (es fs : Named) (number : Option ℕ) → IsNumberAt (seen_of (values_of es)) k s.seen number → fs ≡ with_snapshot es k s
    → (all2 ≡ false → all ≡ false) → (all2 ≡ false → late2 ≡ late ++ noted number) → IsSound table late all next (seen_of (values_of es)) → IsSound table late2 all2 next (seen_of (values_of fs))
sound_keep table late late2 all all2 next k snapshot es fs number here is kept lists s =
    subst (λ gs. IsSound table late2 all2 next (seen_of (values_of gs))) (sym is) (record {
      complete = λ e. subst (λ l. IsComplete table l (seen_of (values_of (with_snapshot es k snapshot)))) (sym (lists e)) (complete_with table late snapshot es k number here (s.complete (kept e)));
      rises = subst Rises (sym (numbers_with snapshot es k)) s.rises;
      below = below_with next snapshot es k s.below;
    })

-- ---- the index

complete_grows : (table more : Table) (late : List ℕ) (ws : List Seen) → Grows table more → IsComplete table late ws → IsComplete more late ws
complete_grows table more late [] grows all = tt
complete_grows table more late (w ∷ ws) grows all = ((λ h. stands_grows table more w.0 w.1 grows (all.0 h)), complete_grows table more late ws grows all.1)

-- where all numbers are late, every row is found
numbers_found : (table : Table) (late : List ℕ) (ws : List Seen) → ((n : ℕ) → has (numbers_of ws) n ≡ true → has late n ≡ true) → IsComplete table late ws
numbers_found table late [] all = tt
numbers_found table late (w ∷ ws) all = (
  (λ h. absurd (true≢false (sym (all w.0 (has_first w.0 (numbers_of ws))) ∙ h))),
  numbers_found table late ws (λ n h. all n (or_right (nat_eq w.0 n) (has (numbers_of ws) n) h)),
)

pub sound_forget : (table more : Table) (late numbers : List ℕ) (all : Bool) (next : ℕ) (ws : List Seen) → numbers ≡ numbers_of ws → IsSound table late all next ws → IsSound more numbers false next ws
sound_forget table more late numbers all next ws is s = record {
  complete = λ _. subst (λ ns. IsComplete more ns ws) (sym is) (numbers_found more (numbers_of ws) ws (λ n h. h));
  rises = s.rises;
  below = s.below;
}

pub sound_grows : (table more : Table) (late : List ℕ) (all : Bool) (next : ℕ) (ws : List Seen) → Grows table more → IsSound table late all next ws → IsSound more late all next ws
sound_grows table more late all next ws grows s = record { complete = λ e. complete_grows table more late ws grows (s.complete e); rises = s.rises; below = s.below }

pub sound_clear : (table more : Table) (late none : List ℕ) (all : Bool) (next : ℕ) (ws : List Seen) → none ≡ [] → (IsComplete table late ws → IsComplete more [] ws) → IsSound table late all next ws → IsSound more none all next ws
sound_clear table more late none all next ws is complete s = record {
  complete = λ e. subst (λ ns. IsComplete more ns ws) (sym is) (complete (s.complete e));
  rises = s.rises;
  below = s.below;
}
