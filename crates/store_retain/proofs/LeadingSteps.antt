-- Noting ids, opening their records, and what that comes to.
use Rattle.std.proofs.Common.{◌≡◌, ℕ, ◌+◌, ◌<◌, ◌≤◌, ◌⊎◌, inl, inr, Bool, true, false, true≢false, cond, not, ◌||◌, ◌&&◌, List, [], ◌∷◌, ◌++◌, length, Option, Some, None, is_some, is_eq, option_and_then, option_map, unwrap_or, bytes_eq, refl, sym, ap, subst, ◌∙◌, arith, Ordering, Less, Equal, Greater, nat_cmp}
use Rattle.std.proofs.lemmas.Bool.{and_parts}
use Rattle.std.proofs.lemmas.List.Sums.{sum_by-cons}
use Rattle.std.proofs.lemmas.Map.Text.{is_eq-slice_cmp}
use Rattle.std.proofs.lemmas.Slice.Eq.{bytes_eq-Decides}
use Rattle.std.specs.BTreeSet.{insert_key}
use Rattle.std.specs.Cmp.Lexicographic.{slice_cmp, nat_list_eq_equiv}
use Rattle.std.specs.FinMap as finmap
use Rattle.std.specs.FinMap.Entries.{find}
use Rattle.std.specs.List.{count_by, list_all, list_any}
use Rattle.std.specs.Ordering.{match_ordering}
use Rattle.plan_ir.specs.gql_plain.Order.{has_text}
use Rattle.plan_ir.specs.store_record.Keys.{Text}
use Rattle.plan_ir.specs.store_record.declared.record.Record.{Record}
use Rattle.plan_ir.specs.store_record.declared.record.Slot.{Slot}
use Rattle.plan_ir.proofs.store_model_laws.Led.{leads-least}
use Rattle.plan_ir.specs.store_model.Leads.{IsLedTo, ids_of_fields, leads, with_infos}
use Rattle.plan_ir.specs.store_model.Merge.{info_id}
use Rattle.plan_ir.specs.store_model.Records.{Records, alive, live}
use Rattle.store_retain.specs.Leading.{IsOpened, is_unnoted, left, out, out_of}
use Rattle.store_sweeps.proofs.Written.{has_append, or_false}

abbrev order : Text → Text → Ordering
order = slice_cmp nat_cmp

same_text : (a b : Text) → bytes_eq a b ≡ true → a ≡ b
same_text a b e = (bytes_eq-Decides a b).0 e

-- ---- a set with one text more

tied : (k x : Text) → is_eq (order k x) ≡ bytes_eq x k
tied k x = is_eq-slice_cmp k x ∙ nat_list_eq_equiv.symm k x

or_swap : (a b : Bool) → (a || b) ≡ (b || a)
or_swap true true = refl
or_swap true false = refl
or_swap false true = refl
or_swap false false = refl

or_assoc : (a b c : Bool) → ((a || b) || c) ≡ (a || (b || c))
or_assoc true b c = refl
or_assoc false b c = refl

or_again : (a b : Bool) → ((a || b) || a) ≡ (a || b)
or_again true b = refl
or_again false true = refl
or_again false false = refl

pub has_inserted : (xs : List Text) (k j : Text) → has_text (insert_key order xs k) j ≡ (has_text xs j || bytes_eq k j)
has_inserted [] k j = or_false (bytes_eq k j)
has_inserted (x ∷ xs) k j = at (has_inserted xs k j) (order k x) refl
  where
    at : has_text (insert_key order xs k) j ≡ (has_text xs j || bytes_eq k j)
        → (o : Ordering) → order k x ≡ o → has_text (match_ordering o (k ∷ x ∷ xs) (x ∷ xs) (x ∷ insert_key order xs k)) j ≡ (has_text (x ∷ xs) j || bytes_eq k j)
    at rest Less e = or_swap (bytes_eq k j) (has_text (x ∷ xs) j)
    at rest Equal e =
        let same : x ≡ k = same_text x k (sym (tied k x) ∙ ap is_eq e) in
        sym (or_again (bytes_eq x j) (has_text xs j)) ∙ ap (λ t. (bytes_eq x j || has_text xs j) || bytes_eq t j) same
    at rest Greater e = ap (λ b. bytes_eq x j || b) rest ∙ sym (or_assoc (bytes_eq x j) (has_text xs j) (bytes_eq k j))

pub contains_has : (xs : List Text) (k : Text) → list_any (λ x. is_eq (order k x)) xs ≡ has_text xs k
contains_has [] k = refl
contains_has (x ∷ xs) k = λ i. tied k x i || contains_has xs k i

-- ---- what was noted stays noted

pub true_or : (a b : Bool) → a ≡ true → (a || b) ≡ true
true_or true b h = refl
true_or false b h = absurd (true≢false (sym h))

pub or_true : (a b : Bool) → b ≡ true → (a || b) ≡ true
or_true true b h = refl
or_true false b h = h

pub either : (a b : Bool) → (a || b) ≡ true → (a ≡ true) ⊎ (b ≡ true)
either true b h = inl refl
either false b h = inr h

all_more : (N N' ids : List Text) → ((j : Text) → has_text N j ≡ true → has_text N' j ≡ true) → list_all (has_text N) ids ≡ true → list_all (has_text N') ids ≡ true
all_more N N' [] more h = refl
all_more N N' (id ∷ ids) more h = at (all_more N N' ids more) (has_text N id) refl h
  where
    at : (list_all (has_text N) ids ≡ true → list_all (has_text N') ids ≡ true)
        → (b : Bool) → has_text N id ≡ b → (b && list_all (has_text N) ids) ≡ true → (has_text N' id && list_all (has_text N') ids) ≡ true
    at later true e rest = ap (λ x. x && list_all (has_text N') ids) (more id e) ∙ later rest
    at later false e rest = absurd (true≢false (sym rest))

of_all : (N xs : List Text) → list_all (has_text N) xs ≡ true → (j : Text) → has_text xs j ≡ true → has_text N j ≡ true
of_all N [] all j h = absurd (true≢false (sym h))
of_all N (x ∷ xs) all j h =
    let both = and_parts (has_text N x) (list_all (has_text N) xs) all in
    elim (either (bytes_eq x j) (has_text xs j) h) [
      | inl same ↦ subst (λ t. has_text N t ≡ true) (same_text x j same) both.0
      | inr rest ↦ of_all N xs both.1 j rest
    ]

-- more was noted and more is to be opened: a live id is to be opened, or was noted before
pub opened_more : (m : Records) (N N' O O' : List Text) (except : Text → Bool)
    → ((j : Text) → has_text N j ≡ true → has_text N' j ≡ true)
    → ((j : Text) → has_text O j ≡ true → has_text O' j ≡ true)
    → ((j : Text) → has_text O' j ≡ true → has_text N' j ≡ true)
    → ((id : Text) (row : Record) → live id m ≡ Some row → has_text N' id ≡ true → (has_text N id ≡ true) ⊎ (has_text O' id ≡ true))
    → IsOpened m N O except → IsOpened m N' O' except
opened_more m N N' O O' except noted pending pended new before = record {
  pended = pended;
  opened = λ id row is h.
      elim (new id row is h) [
        | inl old ↦ spread id row (before.opened id row is old)
        | inr here ↦ true_or _ (except id) (true_or (has_text O' id) _ here)
      ];
}
  where
    spread : (id : Text) (row : Record) → ((has_text O id || list_all (has_text N) (out id row)) || except id) ≡ true → ((has_text O' id || list_all (has_text N') (out id row)) || except id) ≡ true
    spread id row h =
        elim (either (has_text O id || list_all (has_text N) (out id row)) (except id) h) [
          | inl one ↦ true_or _ (except id) (elim (either (has_text O id) (list_all (has_text N) (out id row)) one) [
            | inl open_one ↦ true_or (has_text O' id) _ (pending id open_one)
            | inr all ↦ or_true (has_text O' id) _ (all_more N N' (out id row) noted all)
          ])
          | inr excepted ↦ or_true _ (except id) excepted
        ]

-- ---- what is left gets less

count_cons : (p : Text × Slot → Bool) (e : Text × Slot) (es : List (Text × Slot)) → count_by p (e ∷ es) ≡ cond {A = ℕ} (p e) 1 0 + count_by p es
count_cons p e es = sum_by-cons (λ x. cond {A = ℕ} (p x) 1 0) e es

fewer_here : (a b live_one : Bool) → (a ≡ true → b ≡ true) → cond {A = ℕ} (not b && live_one) 1 0 ≤ cond {A = ℕ} (not a && live_one) 1 0
fewer_here true b live_one more = let e : b ≡ true = more refl in subst (λ x. cond {A = ℕ} (not x && live_one) 1 0 ≤ 0) (sym e) (omega arith)
fewer_here false true live_one more = omega arith
fewer_here false false live_one more = omega arith

pub fewer : (N N' : List Text) (es : List (Text × Slot)) → ((j : Text) → has_text N j ≡ true → has_text N' j ≡ true) → count_by (is_unnoted N') es ≤ count_by (is_unnoted N) es
fewer N N' [] more = omega arith
fewer N N' (e ∷ es) more =
    let rest = fewer N N' es more in
    let here = fewer_here (has_text N e.0) (has_text N' e.0) (is_some (alive e.1)) (more e.0) in
    omega (arith, rest, here, count_cons (is_unnoted N) e es, count_cons (is_unnoted N') e es)

one_here : (N N' : List Text) (id key : Text) (s : Slot) → id ≡ key → is_some (alive s) ≡ true → has_text N id ≡ false → has_text N' id ≡ true
    → cond {A = ℕ} (is_unnoted N' (key, s)) 1 0 + 1 ≤ cond {A = ℕ} (is_unnoted N (key, s)) 1 0
one_here N N' id key s same is_alive old new =
    let before : is_unnoted N (key, s) ≡ true = ap (λ t. not (has_text N t) && is_some (alive s)) (sym same) ∙ ap (λ b. not b && is_some (alive s)) old ∙ is_alive in
    let after : is_unnoted N' (key, s) ≡ false = ap (λ t. not (has_text N' t) && is_some (alive s)) (sym same) ∙ ap (λ b. not b && is_some (alive s)) new in
    omega (arith, ap (λ b. cond {A = ℕ} b 1 0) before, ap (λ b. cond {A = ℕ} b 1 0) after)

one_fewer_in : (N N' : List Text) (id : Text) (es : List (Text × Slot)) → ((j : Text) → has_text N j ≡ true → has_text N' j ≡ true) → is_some (option_and_then alive (find order id es)) ≡ true
    → has_text N id ≡ false → has_text N' id ≡ true → count_by (is_unnoted N') es + 1 ≤ count_by (is_unnoted N) es
one_fewer_in N N' id [] more found old new = absurd (true≢false (sym found))
one_fewer_in N N' id (e ∷ es) more found old new = at (λ there. one_fewer_in N N' id es more there old new) (is_eq (order id e.0)) refl found
  where
    at : (is_some (option_and_then alive (find order id es)) ≡ true → count_by (is_unnoted N') es + 1 ≤ count_by (is_unnoted N) es)
        → (b : Bool) → is_eq (order id e.0) ≡ b → is_some (option_and_then alive (cond b (Some e.1) (find order id es))) ≡ true → count_by (is_unnoted N') (e ∷ es) + 1 ≤ count_by (is_unnoted N) (e ∷ es)
    at later true same here =
        let one = one_here N N' id e.0 e.1 (sym (same_text e.0 id (sym (tied id e.0) ∙ same))) here old new in
        omega (arith, one, fewer N N' es more, count_cons (is_unnoted N) e es, count_cons (is_unnoted N') e es)
    at later false other there =
        let rest = later there in
        omega (arith, rest, fewer_here (has_text N e.0) (has_text N' e.0) (is_some (alive e.1)) (more e.0), count_cons (is_unnoted N) e es, count_cons (is_unnoted N') e es)

pub one_fewer : (m : Records) (N N' : List Text) (id : Text) → ((j : Text) → has_text N j ≡ true → has_text N' j ≡ true) → is_some (live id m) ≡ true
    → has_text N id ≡ false → has_text N' id ≡ true → count_by (is_unnoted N') (finmap.entries m) + 1 ≤ count_by (is_unnoted N) (finmap.entries m)
one_fewer m N N' id more is_live old new =
    one_fewer_in N N' id (finmap.entries m) more (ap (λ o. is_some (option_and_then alive o)) (sym (finmap.get-entries m id)) ∙ is_live) old new

-- ---- one id is noted

pub noted_with : (N N' : List Text) (id : Text) → ((j : Text) → has_text N' j ≡ (has_text N j || bytes_eq id j)) → (j : Text) → has_text N j ≡ true → has_text N' j ≡ true
noted_with N N' id is j h = is j ∙ true_or (has_text N j) (bytes_eq id j) h

self : (id : Text) → bytes_eq id id ≡ true
self id = (bytes_eq-Decides id id).1 refl

pub is_noted : (N N' : List Text) (id : Text) → ((j : Text) → has_text N' j ≡ (has_text N j || bytes_eq id j)) → has_text N' id ≡ true
is_noted N N' id is = is id ∙ or_true (has_text N id) (bytes_eq id id) (self id)

not_live : (o : Option Record) (row : Record) → is_some o ≡ false → o ≡ Some row → ⊥
not_live o row dead e = true≢false (sym (ap is_some e) ∙ dead)

-- it is not live
pub opened_dead : (m : Records) (N N' O : List Text) (id : Text) (except : Text → Bool) → ((j : Text) → has_text N' j ≡ (has_text N j || bytes_eq id j)) → is_some (live id m) ≡ false
    → IsOpened m N O except → IsOpened m N' O except
opened_dead m N N' O id except is dead before =
    opened_more m N N' O O except (noted_with N N' id is) (λ j h. h) (λ j h. noted_with N N' id is j (before.pended j h))
    (λ q row alive_q h. elim (either (has_text N q) (bytes_eq id q) (sym (is q) ∙ h)) [
      | inl old ↦ inl old
      | inr same ↦ absurd (not_live (live q m) row (ap (λ t. is_some (live t m)) (sym (same_text id q same)) ∙ dead) alive_q)
    ]) before

-- it is to be opened
pub opened_live : (m : Records) (N N' O O' : List Text) (id : Text) (except : Text → Bool) → ((j : Text) → has_text N' j ≡ (has_text N j || bytes_eq id j)) → O' ≡ O ++ id ∷ []
    → IsOpened m N O except → IsOpened m N' O' except
opened_live m N N' O O' id except is put before =
    let has_put = λ (j : Text). ap (λ ids. has_text ids j) put ∙ has_append O (id ∷ []) j ∙ ap (λ b. has_text O j || b) (or_false (bytes_eq id j)) in
    opened_more m N N' O O' except (noted_with N N' id is) (λ j h. has_put j ∙ true_or (has_text O j) (bytes_eq id j) h)
    (λ j h. is j ∙ elim (either (has_text O j) (bytes_eq id j) (sym (has_put j) ∙ h)) [
      | inl old ↦ true_or (has_text N j) (bytes_eq id j) (before.pended j old)
      | inr same ↦ or_true (has_text N j) (bytes_eq id j) same
    ])
    (λ q row alive_q h. elim (either (has_text N q) (bytes_eq id q) (sym (is q) ∙ h)) [
      | inl old ↦ inl old
      | inr same ↦ inr (has_put q ∙ or_true (has_text O q) (bytes_eq id q) same)
    ]) before

-- ---- an id that was new

not_true : (b : Bool) → not b ≡ true → b ≡ false
not_true true h = absurd (true≢false (sym h))
not_true false h = refl

pub was_new : (N : List Text) (id copied : Text) (fresh : Bool) → copied ≡ id → fresh ≡ not (list_any (λ x. is_eq (order copied x)) N) → fresh ≡ true → has_text N id ≡ false
was_new N id copied fresh same is holds = ap (has_text N) (sym same) ∙ sym (contains_has N copied) ∙ not_true _ (sym is ∙ holds)

pub less_dead : (m : Records) (N N' O : List Text) (id : Text) → ((j : Text) → has_text N' j ≡ (has_text N j || bytes_eq id j)) → left m N' O ≤ left m N O
less_dead m N N' O id is = let less = fewer N N' (finmap.entries m) (noted_with N N' id is) in omega (arith, less)

length_push : (O : List Text) (id : Text) → length (O ++ id ∷ []) ≡ length O + 1
length_push [] id = refl
length_push (x ∷ O) id = let rest = length_push O id in omega (arith, rest)

pub less_live : (m : Records) (N N' O O' : List Text) (id : Text) → ((j : Text) → has_text N' j ≡ (has_text N j || bytes_eq id j)) → O' ≡ O ++ id ∷ [] → is_some (live id m) ≡ true → has_text N id ≡ false → left m N' O' ≤ left m N O
less_live m N N' O O' id is put is_live new =
    let less = one_fewer m N N' id (noted_with N N' id is) is_live new (is_noted N N' id is) in
    omega (arith, less, ap length put, length_push O id)

-- ---- an id and its page information

pub both_noted : (N : List Text) (id j : Text) → ((has_text N j || bytes_eq id j) || bytes_eq (info_id id) j) ≡ (has_text N j || has_text (id ∷ info_id id ∷ []) j)
both_noted N id j = or_assoc (has_text N j) (bytes_eq id j) (bytes_eq (info_id id) j) ∙ ap (λ b. has_text N j || (bytes_eq id j || b)) (sym (or_false (bytes_eq (info_id id) j)))

-- the page information of a live record, and what it links to
pub out_noted : (m : Records) (N : List Text) (id : Text) (row : Record) (links : List Text) (j : Text) → live id m ≡ Some row → links ≡ ids_of_fields row.fields
    → ((has_text N j || bytes_eq (info_id id) j) || has_text (with_infos links) j) ≡ (has_text N j || has_text (out_of m id) j)
out_noted m N id row links j is_live is =
    or_assoc (has_text N j) (bytes_eq (info_id id) j) (has_text (with_infos links) j)
    ∙ ap (λ ls. has_text N j || (bytes_eq (info_id id) j || has_text (with_infos ls) j)) is
    ∙ ap (λ o. has_text N j || has_text (unwrap_or (option_map (out id) o) []) j) (sym is_live)

pub none_noted : (m : Records) (N : List Text) (id j : Text) → live id m ≡ None → has_text N j ≡ (has_text N j || has_text (out_of m id) j)
none_noted m N id j dead = sym (or_false (has_text N j)) ∙ ap (λ o. has_text N j || has_text (unwrap_or (option_map (out id) o) []) j) (sym dead)

-- ---- one record is opened

less_pending : (O : List Text) (id j : Text) → has_text (O ++ id ∷ []) j ≡ (has_text O j || bytes_eq id j)
less_pending O id j = has_append O (id ∷ []) j ∙ ap (λ b. has_text O j || b) (or_false (bytes_eq id j))

-- an id is taken off, and excepted
pub taken_off : (m : Records) (N O before : List Text) (id : Text) → before ≡ O ++ id ∷ [] → IsOpened m N before (λ j. false) → IsOpened m N O (λ j. bytes_eq id j)
taken_off m N O before id is opened = record {
  pended = λ j h. opened.pended j (has j ∙ true_or (has_text O j) (bytes_eq id j) h);
  opened = λ j row alive_j h.
      elim (either (has_text before j || list_all (has_text N) (out j row)) false (opened.opened j row alive_j h)) [
        | inl one ↦ elim (either (has_text before j) (list_all (has_text N) (out j row)) one) [
          | inl here ↦ elim (either (has_text O j) (bytes_eq id j) (sym (has j) ∙ here)) [
            | inl old ↦ true_or _ (bytes_eq id j) (true_or (has_text O j) _ old)
            | inr same ↦ or_true _ (bytes_eq id j) same
          ]
          | inr all ↦ true_or _ (bytes_eq id j) (or_true (has_text O j) _ all)
        ]
        | inr never ↦ absurd (true≢false (sym never))
      ];
}
  where
    has : (j : Text) → has_text before j ≡ (has_text O j || bytes_eq id j)
    has j = ap (λ ids. has_text ids j) is ∙ less_pending O id j

pub was_noted : (m : Records) (N O before : List Text) (id : Text) → before ≡ O ++ id ∷ [] → IsOpened m N before (λ j. false) → has_text N id ≡ true
was_noted m N O before id is opened = opened.pended id (ap (λ ids. has_text ids id) is ∙ less_pending O id id ∙ or_true (has_text O id) (bytes_eq id id) (self id))

all_in : (N N' ids : List Text) → ((j : Text) → has_text ids j ≡ true → has_text N' j ≡ true) → list_all (has_text N') ids ≡ true
all_in N N' [] h = refl
all_in N N' (id ∷ ids) h =
    ap (λ b. b && list_all (has_text N') ids) (h id (true_or (bytes_eq id id) (has_text ids id) (self id)))
    ∙ all_in N N' ids (λ j k. h j (or_true (bytes_eq id j) (has_text ids j) k))

-- all that it leads to was noted then, so that it is excepted no more
pub put_back : (m : Records) (N N' O : List Text) (id : Text) → ((j : Text) → has_text N' j ≡ (has_text N j || has_text (out_of m id) j)) → IsOpened m N' O (λ j. bytes_eq id j) → IsOpened m N' O (λ j. false)
put_back m N N' O id is opened = record {
  pended = opened.pended;
  opened = λ j row alive_j h.
      elim (either (has_text O j || list_all (has_text N') (out j row)) (bytes_eq id j) (opened.opened j row alive_j h)) [
        | inl one ↦ true_or _ false one
        | inr same ↦ true_or _ false (or_true (has_text O j) _ (all_in N N' (out j row)
            (λ k in_out. is k ∙ or_true (has_text N k) (has_text (out_of m id) k) (subst (λ t. has_text (out_of m t) k ≡ true) (sym (same_text id j same)) (ap (λ o. has_text (unwrap_or (option_map (out j) o) []) k) alive_j ∙ in_out)))))
      ];
}

-- ---- all that ids lead to, and nothing else

-- what holds of ids and of their page information holds of all of these
infos_in : (ids : List Text) (P : Text → Type 0) → ((k : Text) → has_text ids k ≡ true → P k) → ((k : Text) → has_text ids k ≡ true → P (info_id k)) → (k : Text) → has_text (with_infos ids) k ≡ true → P k
infos_in [] P own info k h = absurd (true≢false (sym h))
infos_in (id ∷ ids) P own info k h =
    elim (either (bytes_eq id k) (bytes_eq (info_id id) k || has_text (with_infos ids) k) h) [
      | inl same ↦ subst P (same_text id k same) (own id (true_or (bytes_eq id id) (has_text ids id) (self id)))
      | inr more ↦ elim (either (bytes_eq (info_id id) k) (has_text (with_infos ids) k) more) [
        | inl same ↦ subst P (same_text (info_id id) k same) (info id (true_or (bytes_eq id id) (has_text ids id) (self id)))
        | inr rest ↦ infos_in ids P (λ j g. own j (or_true (bytes_eq id j) (has_text ids j) g)) (λ j g. info j (or_true (bytes_eq id j) (has_text ids j) g)) k rest
      ]
    ]

own_in : (ids : List Text) (id : Text) → has_text ids id ≡ true → has_text (with_infos ids) id ≡ true
own_in [] id h = h
own_in (x ∷ ids) id h =
    elim (either (bytes_eq x id) (has_text ids id) h) [
      | inl same ↦ true_or (bytes_eq x id) _ same
      | inr rest ↦ or_true (bytes_eq x id) _ (or_true (bytes_eq (info_id x) id) _ (own_in ids id rest))
    ]

info_in : (ids : List Text) (id : Text) → has_text ids id ≡ true → has_text (with_infos ids) (info_id id) ≡ true
info_in [] id h = absurd (true≢false (sym h))
info_in (x ∷ ids) id h =
    elim (either (bytes_eq x id) (has_text ids id) h) [
      | inl same ↦ or_true (bytes_eq x (info_id id)) _ (true_or (bytes_eq (info_id x) (info_id id)) _ (subst (λ t. bytes_eq (info_id t) (info_id id) ≡ true) (sym (same_text x id same)) (self (info_id id))))
      | inr rest ↦ or_true (bytes_eq x (info_id id)) _ (or_true (bytes_eq (info_id x) (info_id id)) _ (info_in ids id rest))
    ]

-- where nothing is to be opened any more, each set that holds all that was noted from the start is such a set
pub led_to : (m : Records) (ids N : List Text) → ((j : Text) → has_text (with_infos ids) j ≡ true → has_text N j ≡ true) → IsOpened m N [] (λ j. false) → IsLedTo m ids (has_text N)
led_to m ids N given opened = record {
  given = λ id h. given id (own_in ids id h);
  info_of_given = λ id h. given (info_id id) (info_in ids id h);
  info_of_live = λ id row e h. out_in id row e h (info_id id) (true_or (bytes_eq (info_id id) (info_id id)) _ (self (info_id id)));
  linked = λ id row e h j k. out_in id row e h j (or_true (bytes_eq (info_id id) j) _ (own_in (ids_of_fields row.fields) j k));
  info_of_linked = λ id row e h j k. out_in id row e h (info_id j) (or_true (bytes_eq (info_id id) (info_id j)) _ (info_in (ids_of_fields row.fields) j k));
}
  where
    one_of : (xs : List Text) → list_all (has_text N) xs ≡ true → (j : Text) → has_text xs j ≡ true → has_text N j ≡ true
    one_of xs all j h = of_all N xs all j h

    out_in : (id : Text) (row : Record) → live id m ≡ Some row → has_text N id ≡ true → (j : Text) → has_text (out id row) j ≡ true → has_text N j ≡ true
    out_in id row e h j is_out =
        elim (either (list_all (has_text N) (out id row)) false (opened.opened id row e h)) [
          | inl all ↦ one_of (out id row) all j is_out
          | inr never ↦ absurd (true≢false (sym never))
        ]

same_bools : (a b : Bool) → (a ≡ true → b ≡ true) → (b ≡ true → a ≡ true) → a ≡ b
same_bools true b f g = sym (f refl)
same_bools false true f g = g refl
same_bools false false f g = refl

pub all_led : (m : Records) (ids N : List Text) → ((j : Text) → has_text (with_infos ids) j ≡ true → has_text N j ≡ true) → ((j : Text) → has_text N j ≡ true → has_text (leads m ids) j ≡ true)
    → IsOpened m N [] (λ j. false) → (j : Text) → has_text N j ≡ has_text (leads m ids) j
all_led m ids N given sound opened j = same_bools (has_text N j) (has_text (leads m ids) j) (sound j) ((leads-least m ids).1 (has_text N) (led_to m ids N given opened) j)

-- what was noted at the start
pub start_sound : (m : Records) (ids : List Text) (j : Text) → has_text (with_infos ids) j ≡ true → has_text (leads m ids) j ≡ true
start_sound m ids j h = infos_in ids (λ t. has_text (leads m ids) t ≡ true) (leads-least m ids).0.given (leads-least m ids).0.info_of_given j h

pub none_opened : (m : Records) (N O : List Text) → N ≡ [] → O ≡ [] → IsOpened m N O (λ j. false)
none_opened m N O nothing none = record {
  pended = λ j h. absurd (true≢false (sym h ∙ ap (λ ids. has_text ids j) none));
  opened = λ j row e h. absurd (true≢false (sym h ∙ ap (λ ids. has_text ids j) nothing));
}

-- what was noted is among what the ids lead to, also with what one of them leads to
pub still_sound : (m : Records) (ids N N' : List Text) (id : Text) → ((j : Text) → has_text N' j ≡ (has_text N j || has_text (out_of m id) j)) → has_text N id ≡ true
    → ((j : Text) → has_text N j ≡ true → has_text (leads m ids) j ≡ true) → (j : Text) → has_text N' j ≡ true → has_text (leads m ids) j ≡ true
still_sound m ids N N' id is noted sound j h =
    elim (either (has_text N j) (has_text (out_of m id) j) (sym (is j) ∙ h)) [
      | inl old ↦ sound j old
      | inr led ↦ of_out (live id m) refl led
    ]
  where
    least : IsLedTo m ids (has_text (leads m ids))
    least = (leads-least m ids).0

    of_out : (o : Option Record) → live id m ≡ o → has_text (unwrap_or (option_map (out id) o) []) j ≡ true → has_text (leads m ids) j ≡ true
    of_out None e led = absurd (true≢false (sym led))
    of_out (Some row) e led =
        elim (either (bytes_eq (info_id id) j) (has_text (with_infos (ids_of_fields row.fields)) j) led) [
          | inl same ↦ subst (λ t. has_text (leads m ids) t ≡ true) (same_text (info_id id) j same) (least.info_of_live id row e (sound id noted))
          | inr linked ↦ infos_in (ids_of_fields row.fields) (λ t. has_text (leads m ids) t ≡ true) (least.linked id row e (sound id noted)) (least.info_of_linked id row e (sound id noted)) j linked
        ]

pub no_texts : (ids : List Text) → length ids ≡ 0 → ids ≡ []
no_texts [] e = refl
no_texts (id ∷ ids) e = absurd (omega arith)

pub smaller : (m : Records) (N' O' N O before : List Text) (id : Text) → before ≡ O ++ id ∷ [] → left m N' O' ≤ left m N O → left m N' O' < left m N before
smaller m N' O' N O before id taken less = omega (arith, less, ap length taken, length_push O id)
