-- Sweeps: what stands at an id then, and what taking the ids that go out one by one leaves.
use Rattle.std.proofs.Common.{◌≡◌, ℕ, ◌+◌, ◌<◌, ◌≤◌, Bool, true, false, cond, not, ◌&&◌, ◌||◌, T, List, [], ◌∷◌, map, drop, take, length, get_or, Option, Some, None, is_some, refl, sym, ap, ◌∙◌, bytes_eq, nat_cmp, arith, Ordering, Less, Equal, Greater, is_lt}
use Rattle.std.proofs.lemmas.List.{drop_all, drop_more, take_all}
use Rattle.std.proofs.lemmas.List.Kept.{IsStrictlySortedBy-filter}
use Rattle.std.proofs.lemmas.Map.Text.{is_eq-slice_cmp}
use Rattle.std.specs.Cmp.Lexicographic.{slice_cmp, nat_list_cmp_total, nat_list_eq_equiv}
use Rattle.std.specs.FinMap.{entries, entries_sorted, keys, remove, get-remove, same_map}
use Rattle.std.specs.FinMap.Entries.{is_sorted, below_all}
use Rattle.std.specs.List.{AllByRecursion, filter}
use Rattle.std.specs.List.Sorted.{IsStrictlySortedBy}
use Rattle.std.specs.Ordering.{eq_by_cmp}
use Rattle.store_update.specs.gql_plain.Order.{AreInOrder, has_text}
use Rattle.store_update.specs.store_record.Keys.{Text}
use Rattle.store_update.specs.store_record.declared.record.Slot.{Slot}
use Rattle.store_update.specs.store_model.Records.{Records, slot_at}
use Rattle.store_update.specs.store_model.Sweeps.{sweep, dropped}
use Rattle.store_update.proofs.store_model_laws.SweptSlots.{ties_alone, slot_at-sweep, has_text-dropped}
use Rattle.store_layers.specs.Layered.{Layered, swept}

abbrev order : Text → Text → Ordering
order = slice_cmp nat_cmp

tied : (id q : Text) → eq_by_cmp order q id ≡ bytes_eq id q
tied id q = is_eq-slice_cmp q id ∙ nat_list_eq_equiv.symm q id

-- ---- slots

pub slot_at-remove : (m : Records) (gone id : Text) → slot_at id (remove m gone) ≡ cond (bytes_eq gone id) None (slot_at id m)
slot_at-remove m gone id = get-remove nat_list_cmp_total m gone id ∙ ap (λ b. cond b None (slot_at id m)) (tied gone id)

pub same_slots : (m n : Records) → ((id : Text) → slot_at id m ≡ slot_at id n) → m ≡ n
same_slots m n same = same_map nat_list_cmp_total ties_alone m n same

-- ---- the ids that go

-- the records without some ids
abbrev pub swept_of : List Text → Records → Records
swept_of gone m = sweep (λ id. not (has_text gone id)) m

pub none_gone : (m : Records) → swept_of [] m ≡ m
none_gone m = same_slots (swept_of [] m) m (λ id. slot_at-sweep (λ one. not (has_text [] one)) m id)

one_gone : (here later : Bool) (s : Option Slot) → cond (not later) (cond here None s) None ≡ cond (not (here || later)) s None
one_gone true true s = refl
one_gone true false s = refl
one_gone false later s = refl

-- one is taken out, and then the rest
pub next_gone : (id : Text) (gone : List Text) (m : Records) → swept_of gone (remove m id) ≡ swept_of (id ∷ gone) m
next_gone id gone m = same_slots (swept_of gone (remove m id)) (swept_of (id ∷ gone) m) (λ q.
    slot_at-sweep (λ one. not (has_text gone one)) (remove m id) q
    ∙ ap (λ s. cond (not (has_text gone q)) s None) (slot_at-remove m id q)
    ∙ one_gone (bytes_eq id q) (has_text gone q) (slot_at q m)
    ∙ sym (slot_at-sweep (λ one. not (has_text (id ∷ gone) one)) m q))

-- of a list of ids, one more
pub step_gone : (ids : List Text) (i : ℕ) (id : Text) (m n : Records) → i < length ids → id ≡ get_or ids i id → n ≡ remove m id
    → swept_of (drop (i + 1) ids) n ≡ swept_of (drop i ids) m
step_gone ids i id m n within is made =
    ap (swept_of (drop (i + 1) ids)) made
    ∙ next_gone id (drop (i + 1) ids) m
    ∙ sym (ap (λ gone. swept_of gone m) (drop_more ids i id within ∙ ap (λ one. one ∷ drop (i + 1) ids) (sym is)))

-- and at their end
pub end_gone : (ids : List Text) (i : ℕ) (m : Records) → length ids ≤ i → m ≡ swept_of (drop i ids) m
end_gone ids i m past = sym (ap (λ gone. swept_of gone m) (drop_all i ids past) ∙ none_gone m)

gone_or_absent : (kept : Bool) (s : Option Slot) → cond (not (not kept && is_some s)) s None ≡ cond kept s None
gone_or_absent true s = refl
gone_or_absent false None = refl
gone_or_absent false (Some s) = refl

-- to take out what goes is to sweep
pub dropped_gone : (keep : Text → Bool) (m : Records) → swept_of (dropped keep m) m ≡ sweep keep m
dropped_gone keep m = same_slots (swept_of (dropped keep m) m) (sweep keep m) (λ id.
    slot_at-sweep (λ one. not (has_text (dropped keep m) one)) m id
    ∙ ap (λ b. cond (not b) (slot_at id m) None) (has_text-dropped keep m id)
    ∙ gone_or_absent (keep id) (slot_at id m)
    ∙ sym (slot_at-sweep keep m id))

-- what was noted at the end of the ids
pub noted_dropped : (keep : Text → Bool) (m : Records) (ids noted : List Text) (i : ℕ) → ids ≡ keys m → length ids ≤ i
    → noted ≡ filter (λ id. not (keep id)) (take i ids) → noted ≡ dropped keep m
noted_dropped keep m ids noted i all past is = is ∙ ap (filter (λ id. not (keep id))) (take_all i ids past ∙ all)

pub no_texts : (ids : List Text) → length ids ≡ 0 → ids ≡ []
no_texts [] e = refl
no_texts (id ∷ ids) e = absurd (omega arith)

-- where nothing goes all stays
all_stays : (keep : Text → Bool) (m : Records) → dropped keep m ≡ [] → sweep keep m ≡ m
all_stays keep m none = sym (dropped_gone keep m) ∙ ap (λ gone. swept_of gone m) none ∙ none_gone m

pub none_swept : (keep : List Text) (s : Layered) → dropped (has_text keep) s.base ≡ [] → s ≡ swept keep s
none_swept keep s none = λ i. record { base = sym (all_stays (has_text keep) s.base none) i; live = s.live }

-- ---- the order of the ids

first_holds : (a b : Bool) → T (a && b) → T a
first_holds true b h = tt
first_holds false b h = h

second_holds : (a b : Bool) → T (a && b) → T b
second_holds true b h = h
second_holds false b h = absurd h

is_less : (o : Ordering) → T (is_lt o) → o ≡ Less
is_less Less h = refl
is_less Equal h = absurd h
is_less Greater h = absurd h

keys_above : (low : Text) (es : List (Text × Slot)) → T (below_all order low es) → AllByRecursion (λ later. order low later ≡ Less) (map (λ e. e.0) es)
keys_above low [] h = tt
keys_above low (e ∷ es) h = (is_less (order low e.0) (first_holds _ _ h), keys_above low es (second_holds _ _ h))

keys_rise : (es : List (Text × Slot)) → T (is_sorted order es) → AreInOrder (map (λ e. e.0) es)
unfolding IsStrictlySortedBy
keys_rise [] h = tt
keys_rise (e ∷ es) h = (keys_above e.0 es (first_holds _ _ h), keys_rise es (second_holds _ _ h))

pub dropped_in_order : (keep : Text → Bool) (m : Records) → AreInOrder (dropped keep m)
dropped_in_order keep m = IsStrictlySortedBy-filter order (λ id. not (keep id)) (keys m) (keys_rise (entries m) (entries_sorted m))

-- the ids of a map are in byte order
pub keys_in_order : (m : Records) → AreInOrder (keys m)
keys_in_order m = keys_rise (entries m) (entries_sorted m)
