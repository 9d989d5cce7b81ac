-- What notices tell, and what the watches keep after them.
use Rattle.std.proofs.Common.{◌≡◌, ℕ, zero, suc, ◌<◌, ◌≤◌, ◌+◌, Bool, true, false, true≢false, cond, ◌||◌, List, [], ◌∷◌, ◌++◌, map, length, drop, get_or, slice_get, Some, String, Global, bytes_eq, append-nil, refl, sym, ap, subst, ◌∙◌, arith}
use Rattle.std.proofs.lemmas.List.{append_assoc, drop_all, drop_more}
use Rattle.std.proofs.lemmas.Slice.Eq.{bytes_eq-Decides}
use Rattle.std.specs.List.{AllByRecursion, list_any}
use Rattle.std.specs.Map.{values_of}
use Rattle.std.specs.Option.{option_map_or}
use Rattle.plan_ir.proofs.gql_plain_laws.SortedTexts.{has_text-sorted_texts}
use Rattle.plan_ir.specs.gql_plain.Order.{has_text, sorted_texts}
use Rattle.plan_ir.specs.ReaderMeaning.{collect_reader, records_below}
use Rattle.plan_ir.proofs.store_model_laws.SameSlots.{read_same_seen}
use Rattle.plan_ir.specs.store_model.Walks.{Found, Reading, Slots, reading, standings, type_of_record}
use Rattle.store_read.specs.Reading.{reading_of}
use Rattle.plan_ir.specs.store_record.Keys.{Text}
use Rattle.store_watch.proofs.Held.{or_left, or_right}
use Rattle.store_watch.specs.Numbers.{Rises}
use Rattle.store_watch.specs.Places.{places_from}
use Rattle.store_watch.specs.Reads.{told_at, told_of, telling_at, work_at, work_of}
use Rattle.store_watch.specs.Rows.{look_of, met_by, watch_of, watches_of}
use Rattle.store_watch.specs.Watching.{AreShown, DifferAt, Look, OthersAreShown, Telling, Watch, accepted, meets, notice_of, notices, notices_from, read_of, shows, with_kept, work}
use Rattle.store_watch.specs.declared.rows.Row.{Row}

abbrev Named : Type 0
Named = List (String Global × Row)

-- ---- the notices of the rows that are met

module _ (m : Slots) (touched : List Text) (rows : List Row) where
  told_cond : (b : Bool) (k : ℕ) (n : Telling) (ps : List ℕ) (ns : List Telling) → told_at m rows k ≡ n ∷ [] → told_of m rows ps ≡ ns → told_of m rows (cond b (k ∷ ps) ps) ≡ cond b (n ∷ ns) ns
  told_cond true k n ps ns here later = λ i. here i ++ later i
  told_cond false k n ps ns here later = later

  work_cond : (b : Bool) (k w v : ℕ) (ps : List ℕ) → work_at m rows k ≡ w → work_of m rows ps ≡ v → work_of m rows (cond b (k ∷ ps) ps) ≡ cond b w 0 + v
  work_cond true k w v ps here later = λ i. here i + later i
  work_cond false k w v ps here later = later ∙ (omega arith)

  -- the rows from a place on
  abbrev From : ℕ → Named → Type 0
  From k es = (place : ℕ) → slice_get rows (k + place) ≡ slice_get (values_of es) place

  next_from : (k : ℕ) (e : String Global × Row) (es : Named) → From k (e ∷ es) → From (suc k) es
  next_from k e es at place = let same : suc k + place ≡ k + suc place = omega arith in ap (slice_get rows) same ∙ at (suc place)

  here_from : (k : ℕ) (e : String Global × Row) (es : Named) → From k (e ∷ es) → slice_get rows k ≡ Some e.1
  here_from k e es at = let same : k ≡ k + 0 = omega arith in ap (slice_get rows) same ∙ at 0

  told_from : (k : ℕ) (es : Named) → From k es → told_of m rows (places_from (met_by touched) k (values_of es)) ≡ notices_from m touched k (watches_of es)
  told_from k [] at = refl
  told_from k (e ∷ es) at =
      told_cond (met_by touched e.1) k (telling_at m k e.1) (places_from (met_by touched) (suc k) (values_of es)) (notices_from m touched (suc k) (watches_of es))
      (ap (λ o. option_map_or (λ r. telling_at m k r ∷ []) o []) (here_from k e es at)) (told_from (suc k) es (next_from k e es at))

  work_from : (k : ℕ) (es : Named) → From k es → work_of m rows (places_from (met_by touched) k (values_of es)) ≡ work m touched (watches_of es)
  work_from k [] at = refl
  work_from k (e ∷ es) at =
      work_cond (met_by touched e.1) k (standings (read_of m (look_of e.1.what))) (work m touched (watches_of es)) (places_from (met_by touched) (suc k) (values_of es))
      (ap (λ o. option_map_or (λ r. standings (read_of m (look_of r.what))) o 0) (here_from k e es at)) (work_from (suc k) es (next_from k e es at))

module _ (m : Slots) (touched : List Text) (es : Named) where
  from_zero : (place : ℕ) → slice_get (values_of es) (0 + place) ≡ slice_get (values_of es) place
  from_zero place = let same : 0 + place ≡ place = omega arith in ap (slice_get (values_of es)) same

  pub told_all : told_of m (values_of es) (places_from (met_by touched) 0 (values_of es)) ≡ notices m touched (watches_of es)
  told_all = told_from m touched (values_of es) 0 es from_zero

  pub work_all : work_of m (values_of es) (places_from (met_by touched) 0 (values_of es)) ≡ work m touched (watches_of es)
  work_all = work_from m touched (values_of es) 0 es from_zero

-- ---- one place further

pub told_step : (m : Slots) (rows : List Row) (ps : List ℕ) (i p : ℕ) (ns more whole : List Telling) → i < length ps → p ≡ get_or ps i p
    → ns ++ told_of m rows (drop i ps) ≡ whole → more ≡ ns ++ told_at m rows p → more ++ told_of m rows (drop (i + 1) ps) ≡ whole
told_step m rows ps i p ns more whole h is kept added =
    let left : drop i ps ≡ p ∷ drop (i + 1) ps = drop_more ps i p h ∙ ap (λ y. y ∷ drop (i + 1) ps) (sym is) in
    ap (λ ts. ts ++ told_of m rows (drop (i + 1) ps)) added ∙ append_assoc ns (told_at m rows p) (told_of m rows (drop (i + 1) ps)) ∙ ap (λ qs. ns ++ told_of m rows qs) (sym left) ∙ kept

pub told_end : (m : Slots) (rows : List Row) (ps : List ℕ) (i : ℕ) (ns whole : List Telling) → length ps ≤ i → ns ++ told_of m rows (drop i ps) ≡ whole → ns ≡ whole
told_end m rows ps i ns whole h kept = sym (append-nil ns) ∙ ap (λ qs. ns ++ told_of m rows qs) (sym (drop_all i ps h)) ∙ kept

pub work_step : (m : Slots) (rows : List Row) (ps : List ℕ) (i p : ℕ) → i < length ps → p ≡ get_or ps i p → work_of m rows (drop i ps) ≡ work_at m rows p + work_of m rows (drop (i + 1) ps)
work_step m rows ps i p h is = ap (work_of m rows) (drop_more ps i p h ∙ ap (λ y. y ∷ drop (i + 1) ps) (sym is))

-- ---- the places of notices

module _ (m : Slots) (touched : List Text) where
  abbrev place_in : Telling → ℕ
  place_in n = n.place

  cond_within : (P : Telling → Type 0) (b : Bool) (n : Telling) (ns : List Telling) → P n → AllByRecursion P ns → AllByRecursion P (cond b (n ∷ ns) ns)
  cond_within P true n ns here all = (here, all)
  cond_within P false n ns here all = all

  all_within : (k l : ℕ) (ws : List Watch) → k + length ws ≤ l → AllByRecursion (λ (n : Telling). n.place < l) (notices_from m touched k ws)
  all_within k l [] h = tt
  all_within k l (w ∷ ws) h =
      cond_within (λ n. n.place < l) (meets w.kept.seen touched) (notice_of m k w) (notices_from m touched (suc k) ws) (omega (arith, h)) (all_within (suc k) l ws (omega (arith, h)))

  pub notices_within : (ws : List Watch) → AllByRecursion (λ (n : Telling). n.place < length ws) (notices m touched ws)
  notices_within ws = all_within 0 (length ws) ws (omega arith)

  above : (x k : ℕ) (ws : List Watch) → x < k → AllByRecursion (λ y. x < y) (map place_in (notices_from m touched k ws))
  above x k [] h = tt
  above x k (w ∷ ws) h = by (meets w.kept.seen touched) (notice_of m k w) (notices_from m touched (suc k) ws) h (above x (suc k) ws (omega (arith, h)))
    where
      by : (b : Bool) (n : Telling) (ns : List Telling) → x < n.place → AllByRecursion (λ y. x < y) (map place_in ns) → AllByRecursion (λ y. x < y) (map place_in (cond b (n ∷ ns) ns))
      by true n ns here all = (here, all)
      by false n ns here all = all

  rise_from : (k : ℕ) (ws : List Watch) → Rises (map place_in (notices_from m touched k ws))
  rise_from k [] = tt
  rise_from k (w ∷ ws) = by (meets w.kept.seen touched) (notice_of m k w) (notices_from m touched (suc k) ws) (above k (suc k) ws (omega arith)) (rise_from (suc k) ws)
    where
      by : (b : Bool) (n : Telling) (ns : List Telling) → AllByRecursion (λ y. n.place < y) (map place_in ns) → Rises (map place_in ns) → Rises (map place_in (cond b (n ∷ ns) ns))
      by true n ns here up = (here, up)
      by false n ns here up = up

  pub notices_rise : (ws : List Watch) → Rises (map (λ (n : Telling). n.place) (notices m touched ws))
  notices_rise ws = rise_from 0 ws

-- ---- watches that saw nothing that is touched

same_text : (a b : Text) → bytes_eq a b ≡ true → a ≡ b
same_text a b e = (bytes_eq-Decides a b).0 e

-- a touched id that was seen is met
met_one : (touched xs : List Text) (id : Text) → has_text xs id ≡ true → has_text touched id ≡ true → meets xs touched ≡ true
met_one touched [] id h t = absurd (true≢false (sym h))
met_one touched (x ∷ xs) id h t =
    elim (bytes_eq x id) as (λ b. bytes_eq x id ≡ b → (b || has_text xs id) ≡ true → (has_text touched x || meets xs touched) ≡ true) [
      | true ↦ λ e _. or_left (has_text touched x) (meets xs touched) (ap (has_text touched) (same_text x id e) ∙ t)
      | false ↦ λ _ later. or_right (has_text touched x) (meets xs touched) (met_one touched xs id later t)
    ] refl h

not_touched : (touched xs : List Text) (id : Text) → meets xs touched ≡ false → has_text xs id ≡ true → (b : Bool) → has_text touched id ≡ b → b ≡ false
not_touched touched xs id none h false e = refl
not_touched touched xs id none h true e = absurd (true≢false (sym (met_one touched xs id h e) ∙ none))

each_in : (P : Text → Type 0) (xs : List Text) → ((id : Text) → has_text xs id ≡ true → P id) → AllByRecursion P xs
each_in P [] all = tt
each_in P (x ∷ xs) all = (all x (or_left (bytes_eq x x) (has_text xs x) ((bytes_eq-Decides x x).1 refl)), each_in P xs (λ id h. all id (or_right (bytes_eq x id) (has_text xs id) h)))

module _ (before now : Slots) (touched : List Text) (differ : DifferAt touched before now) where
  same_read : (look : Look) → meets (shows before look).seen touched ≡ false → read_of now look ≡ read_of before look
  same_read look none =
      let trace = (read_of before look).1.seen in
      read_same_seen collect_reader (type_of_record look.root) look.handle before now (records_below look.steps + 1) look.types (record { environment = look.environment; steps = look.steps } ∷ []) look.id
      (each_in (λ id. before id ≡ now id) trace
      (λ id h. differ id (not_touched touched (sorted_texts trace) id none (has_text-sorted_texts trace id ∙ h) (has_text touched id) refl)))

  pub others_shown : (ws : List Watch) → AreShown before ws → OthersAreShown now touched ws
  others_shown [] all = tt
  others_shown (w ∷ ws) all = (
    (λ none. all.0 ∙ ap reading (sym (same_read w.what (ap (λ (r : Reading). meets r.seen touched) (sym all.0) ∙ none)))),
    others_shown ws all.1,
  )

-- ---- what is kept after the notices

shown_append : (m : Slots) (vs ws : List Watch) → AreShown m vs → AreShown m ws → AreShown m (vs ++ ws)
shown_append m [] ws all more = more
shown_append m (v ∷ vs) ws all more = (all.0, shown_append m vs ws all.1 more)

kept_at : (vs ws : List Watch) (w : Watch) (k : ℕ) (gives : Reading) → k ≡ length vs → with_kept (vs ++ w ∷ ws) k gives ≡ vs ++ record { name = w.name; what = w.what; kept = gives } ∷ ws
kept_at [] ws w zero gives e = refl
kept_at [] ws w (suc k) gives e = absurd (omega (arith, e))
kept_at (v ∷ vs) ws w zero gives e = absurd (omega (arith, e))
kept_at (v ∷ vs) ws w (suc k) gives e = ap (λ us. v ∷ us) (kept_at vs ws w k gives (omega (arith, e)))

length_one : (vs : List Watch) (w : Watch) (k : ℕ) → k ≡ length vs → suc k ≡ length (vs ++ w ∷ [])
length_one [] w k e = omega (arith, e)
length_one (v ∷ vs) w zero e = absurd (omega (arith, e))
length_one (v ∷ vs) w (suc k) e = ap suc (length_one vs w k (omega (arith, e)))

module _ (m : Slots) (touched : List Text) where
  -- one watch further, as the others are kept
  by_one : (w : Watch) (ws vs : List Watch) (k : ℕ) → k ≡ length vs → AreShown m vs
      → ((us : List Watch) → suc k ≡ length us → AreShown m us → AreShown m (accepted (notices_from m touched (suc k) ws) (us ++ ws)))
      → (b : Bool) → (b ≡ false → w.kept ≡ shows m w.what)
      → AreShown m (accepted (cond b (notice_of m k w ∷ notices_from m touched (suc k) ws) (notices_from m touched (suc k) ws)) (vs ++ w ∷ ws))
  by_one w ws vs k e all next true none =
      let new : Watch = record { name = w.name; what = w.what; kept = shows m w.what } in
      subst (λ us. AreShown m (accepted (notices_from m touched (suc k) ws) us)) (append_assoc vs (new ∷ []) ws ∙ sym (kept_at vs ws w k (shows m w.what) e))
      (next (vs ++ new ∷ []) (length_one vs new k e) (shown_append m vs (new ∷ []) all (refl, tt)))
  by_one w ws vs k e all next false none =
      subst (λ us. AreShown m (accepted (notices_from m touched (suc k) ws) us)) (append_assoc vs (w ∷ []) ws)
      (next (vs ++ w ∷ []) (length_one vs w k e) (shown_append m vs (w ∷ []) all (none refl, tt)))

  shown_from : (ws vs : List Watch) (k : ℕ) → k ≡ length vs → AreShown m vs → OthersAreShown m touched ws → AreShown m (accepted (notices_from m touched k ws) (vs ++ ws))
  shown_from [] vs k e all others = shown_append m vs [] all tt
  shown_from (w ∷ ws) vs k e all others =
      by_one w ws vs k e all (λ us same shown. shown_from ws us (suc k) same shown others.1) (meets w.kept.seen touched) others.0

  -- the watches that keep what the notices give are all shown
  pub all_shown : (ws : List Watch) → OthersAreShown m touched ws → AreShown m (accepted (notices m touched ws) ws)
  all_shown ws others = shown_from ws [] 0 refl tt others
