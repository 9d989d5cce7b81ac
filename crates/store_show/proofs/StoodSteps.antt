-- What a walk that writes met, one after another, and that it kept each id that it stood at.
use Rattle.std.proofs.Common.{◌≡◌, ℕ, suc, ◌+◌, ◌-◌, Bool, true, false, ◌||◌, cond, List, [], ◌∷◌, ◌++◌, map, length, drop, slice_get, Bor, Option, Some, None, is_some, option_map, true≢false, refl, sym, ap, ◌∙◌, arith}
use Rattle.std.proofs.lemmas.Slice.Eq.{bytes_eq-Decides}
use Rattle.std.specs.List.{last_or}
use Rattle.std.specs.Str.{bytes_eq}
use Rattle.plan_ir.proofs.gql_plain_laws.SortedTexts.{has_text-Decides}
use Rattle.plan_ir.specs.gql_plain.Order.{AreSortedOf, has_text}
use Rattle.plan_ir.specs.store_model.Walks.{Found, Trace, join_traces, missing_trace, still, stood_lost, trace_at}
use Rattle.store_read.proofs.ReadSteps.{stood_and}
use Rattle.store_read.specs.Meeting.{Meeting}
use Rattle.plan_ir.specs.store_record.Keys.{Text}
use Rattle.store_show.specs.Stood.{ends_with, is_text, stood_all, stood_at, stood_onto}

or_false : (b : Bool) → (b || false) ≡ b
or_false true = refl
or_false false = refl

or_true : (b : Bool) → (b || true) ≡ true
or_true true = refl
or_true false = refl

or_assoc : (a b c : Bool) → ((a || b) || c) ≡ (a || (b || c))
or_assoc true b c = refl
or_assoc false b c = refl

-- ---- one after another

stood_all-append : (kept xs ys : List Text) → stood_all (stood_all kept xs) ys ≡ stood_all kept (xs ++ ys)
stood_all-append kept [] ys = refl
stood_all-append kept (x ∷ xs) ys = stood_all-append (stood_at kept x) xs ys

pub stood_still : (m : Meeting) → stood_onto m still ≡ m
stood_still m = λ i. record { missing = or_false m.missing i; seen = m.seen }

pub stood_joined : (m : Meeting) (s t : Trace) → stood_onto (stood_onto m s) t ≡ stood_onto m (join_traces s t)
stood_joined m s t = λ i. record { missing = or_assoc m.missing s.missing t.missing i; seen = stood_all-append m.seen s.seen t.seen i }

-- what was met by one walk, and then by another
pub stood_twice : (m n k : Meeting) (s t : Trace) → n ≡ stood_onto m s → k ≡ stood_onto n t → k ≡ stood_onto m (join_traces s t)
stood_twice m n k s t first second = second ∙ ap (λ x. stood_onto x t) first ∙ stood_joined m s t

-- a live record, and then what lies below it
pub stood_live : (id : Text) (r l : Found) (m n k : Meeting) → r ≡ stood_and id l → n ≡ stood_onto m (trace_at id) → k ≡ stood_onto n l.1 → k ≡ stood_onto m r.1
stood_live id r l m n k is first second = stood_twice m n k (trace_at id) l.1 first second ∙ ap (λ (x : Found). stood_onto m x.1) (sym is)

-- where no record may be stood at, the one that is sought is missing
pub stood_nothing : (id : Text) (r : Found) (m n k : Meeting) → r ≡ (None, stood_lost id) → n ≡ stood_onto m (trace_at id) → k ≡ stood_onto n missing_trace → k ≡ stood_onto m r.1
stood_nothing id r m n k is first second = stood_twice m n k (trace_at id) missing_trace first second ∙ ap (λ (x : Found). stood_onto m x.1) (sym is)

module _ {A : Type 0} (met : A → Trace) (all_met : List A → Trace) (met_cons : (a : A) (bs : List A) → all_met (a ∷ bs) ≡ join_traces (met a) (all_met bs))
    (xs : List A) (at : ℕ) (x : A) (is : drop at xs ≡ x ∷ drop (at + 1) xs) where
  pub stood_next : (start old new : Meeting) → stood_onto old (all_met (drop at xs)) ≡ start → new ≡ stood_onto old (met x) → stood_onto new (all_met (drop (at + 1) xs)) ≡ start
  stood_next start old new whole e =
      ap (λ m. stood_onto m (all_met (drop (at + 1) xs))) e
      ∙ stood_joined old (met x) (all_met (drop (at + 1) xs))
      ∙ ap (stood_onto old) (sym (met_cons x (drop (at + 1) xs)) ∙ ap all_met (sym is))
      ∙ whole

-- ---- the ids that are kept

has_text-append : (xs ys : List Text) (text : Text) → has_text (xs ++ ys) text ≡ (has_text xs text || has_text ys text)
has_text-append [] ys text = refl
has_text-append (x ∷ xs) ys text = ap (λ b. bytes_eq x text || b) (has_text-append xs ys text) ∙ sym (or_assoc (bytes_eq x text) (has_text xs text) (has_text ys text))

-- the last text of a list is in it
has_last : (before : Option Text) (xs : List Text) (id : Text) → is_text (last_or before xs) id ≡ true → (is_text before id || has_text xs id) ≡ true
has_last before [] id is = or_false (is_text before id) ∙ is
has_last before (x ∷ xs) id is = ap (λ b. is_text before id || b) (has_last (Some x) xs id is) ∙ or_true (is_text before id)

-- so it need not be kept again
had : (kept : List Text) (id text : Text) (b : Bool) → bytes_eq id text ≡ b → has_text kept id ≡ true → has_text kept text ≡ (has_text kept text || b)
had kept id text false is there = sym (or_false (has_text kept text))
had kept id text true is there = ap (has_text kept) (sym ((bytes_eq-Decides id text).0 is)) ∙ there ∙ sym (or_true (has_text kept text))

has_stood_at : (kept : List Text) (id text : Text) → has_text (stood_at kept id) text ≡ (has_text kept text || bytes_eq id text)
has_stood_at kept id text = by (ends_with kept id) refl
  where
    by : (b : Bool) → ends_with kept id ≡ b → has_text (cond b kept (kept ++ id ∷ [])) text ≡ (has_text kept text || bytes_eq id text)
    by true is = had kept id text (bytes_eq id text) refl (has_last None kept id is)
    by false is = has_text-append kept (id ∷ []) text ∙ ap (λ b. has_text kept text || b) (or_false (bytes_eq id text))

has_stood : (kept ids : List Text) (text : Text) → has_text (stood_all kept ids) text ≡ (has_text kept text || has_text ids text)
has_stood kept [] text = sym (or_false (has_text kept text))
has_stood kept (id ∷ ids) text =
    has_stood (stood_at kept id) ids text
    ∙ ap (λ b. b || has_text ids text) (has_stood_at kept id text)
    ∙ or_assoc (has_text kept text) (bytes_eq id text) (has_text ids text)

-- the last one that is kept, as a slice gives it
last_from : (before : Option Text) (ids : List (Bor Text)) (last : Bor Text) (id : Text) → slice_get ids (length ids - 1) ≡ Some last → bytes_eq last.now id ≡ is_text (last_or before (map (λ i. i.now) ids)) id
last_from before [] last id e = absurd (true≢false (sym (ap is_some e)))
last_from before (x ∷ []) last id e = sym (ap (λ (o : Option (Bor Text)). is_text (option_map (λ i. i.now) o) id) e)
last_from before (x ∷ y ∷ ys) last id e =
    let short : suc (length ys) - 1 ≡ length ys = omega arith in
    let long : suc (length ys) ≡ suc (suc (length ys)) - 1 = omega arith in
    last_from (Some x.now) (y ∷ ys) last id (ap (slice_get (y ∷ ys)) short ∙ ap (slice_get (x ∷ y ∷ ys)) long ∙ e)

pub last_kept : (ids : List (Bor Text)) (last : Bor Text) (id : Text) → slice_get ids (length ids - 1) ≡ Some last → bytes_eq last.now id ≡ ends_with (map (λ i. i.now) ids) id
last_kept ids last id e = last_from None ids last id e

-- what is sorted of the ids that are kept is sorted of those that were stood at
pub stood_sorted : (ids sorted : List Text) → AreSortedOf (stood_all [] ids) sorted → AreSortedOf ids sorted
stood_sorted ids sorted are = (
  are.0,
  λ text. (
    λ h. (has_text-Decides ids text).0 (sym (has_stood [] ids text) ∙ (has_text-Decides (stood_all [] ids) text).1 ((are.1 text).0 h)),
    λ h. (are.1 text).1 ((has_text-Decides (stood_all [] ids) text).0 (has_stood [] ids text ∙ (has_text-Decides ids text).1 h)),
  ),
)
