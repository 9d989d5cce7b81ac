-- What begins a text lies within the text, and a token begins and ends with ASCII.
use Rattle.std.proofs.Common.{◌≡◌, ℕ, zero, suc, ◌+◌, ◌-◌, ◌<◌, ◌≤◌, ◌⊎◌, Bool, true, false, cond, eqb, leb, ◌&&◌, ◌||◌, List, [], ◌∷◌, length, get_or, take, drop, Result, Ok, Err, IfOk, refl, ⊎_elim, add-zero, lit<, arith, inl, inr}
use Rattle.std.specs.List.{prefix_len}
use Rattle.std.proofs.lemmas.Bool.{and_parts, or_parts, eqb-true, eqb-false, leb-true, leb-false, cond_both}
use Rattle.std.proofs.lemmas.List.{get_or-drop, length-drop, length-take}
use Rattle.std.proofs.lemmas.List.Sums.{prefix_len-le-length, prefix_len_passes, prefix_len_stops}
use Rattle.gql_lex.specs.declared.tokens.TokenKind.TheVariants.{Text, Block}
use Rattle.gql_lex.specs.declared.tokens.TokenKind.{TokenKind}
use Rattle.gql_lex.specs.declared.tokens.Head.{Head}
use Rattle.gql_lex.specs.declared.tokens.Head.TheVariants.{Ignored, Found, Wrong}
use Rattle.gql_lex.specs.Characters.{is_digit, is_line_end, is_punctuator, is_spread, is_mark, is_ignored, is_number_start, is_float_mark, is_two_quotes, may_stand, may_stand_in_block, is_three_quotes, is_escaped_quotes}
use Rattle.gql_plain.specs.Names.{is_within, is_name_start, is_name_byte}
use Rattle.gql_lex.specs.Numbers.{sign_len, digits_len, int_len, is_in_i64}
use Rattle.gql_lex.specs.Strings.{further, and_then, escape_len, text_end, block_end}
use Rattle.gql_lex.specs.Heads.{comment, int_before, number, string, string_head, head, IsSoundAt}
use Rattle.gql_lex.proofs.Fronts.{head_by}

-- a byte that is not 0 stands within the text
pub stands_within : (bs : List ℕ) (i : ℕ) → 0 < get_or bs i 0 → i < length bs
stands_within [] i h = absurd (omega arith)
stands_within (c ∷ cs) zero h = omega arith
stands_within (c ∷ cs) (suc i) h = omega (arith, stands_within cs i h)

pub third_quote : (bs : List ℕ) → is_three_quotes bs ≡ true → get_or bs 2 0 ≡ 34
third_quote bs e = eqb-true (get_or bs 2 0) 34 (and_parts (eqb (get_or bs 0 0) 34 && eqb (get_or bs 1 0) 34) (eqb (get_or bs 2 0) 34) e).1

pub three_quotes_within : (bs : List ℕ) → is_three_quotes bs ≡ true → 3 ≤ length bs
three_quotes_within bs e = let q = third_quote bs e in omega (arith, stands_within bs 2 (omega arith))

-- ---- a string ends within the text, with a quote

-- the byte n of the text is a quote, a byte standing before it
abbrev pub IsQuoteAt : List ℕ → ℕ → Type 0
IsQuoteAt bs n = (q : ℕ) → get_or (q ∷ bs) n 0 ≡ 34

abbrev pub Closes : List ℕ → ℕ → Type 0
Closes bs n = (n ≤ length bs) × IsQuoteAt bs n

further_closes : (c : ℕ) (cs : List ℕ) (r : Result ℕ ℕ) → IfOk r (Closes cs) → IfOk (further 1 r) (Closes (c ∷ cs))
further_closes c cs (Ok n) h = let e : 1 + n ≡ suc n = omega arith in rw e (omega (arith, h.0), λ q. h.1 c)
further_closes c cs (Err code) h = tt

text_step_gives : (P : ℕ → Type 0) (q e m : Bool) (r : Result ℕ ℕ) (next : ℕ → Result ℕ ℕ) → (q ≡ true → P 1) → ((k : ℕ) → IfOk (next k) P)
    → IfOk (cond q (Ok 1) (cond e (and_then r next) (cond m (next 0) (Err 4)))) P
text_step_gives P true e m r next p h = p refl
text_step_gives P false true m (Ok k) next p h = h k
text_step_gives P false true m (Err code) next p h = tt
text_step_gives P false false true r next p h = h 0
text_step_gives P false false false r next p h = tt

pub text_end-closes : (k : ℕ) (bs : List ℕ) → IfOk (text_end k bs) (Closes bs)
unfolding text_end
text_end-closes k [] = tt
text_end-closes (suc k) (c ∷ cs) = further_closes c cs (text_end k cs) (text_end-closes k cs)
text_end-closes zero (c ∷ cs) =
    text_step_gives (Closes (c ∷ cs)) (eqb c 34) (eqb c 92) (may_stand c) (escape_len cs) _ (λ e. (omega arith, λ q. eqb-true c 34 e))
    (λ n. further_closes c cs (text_end n cs) (text_end-closes n cs))

block_step_gives : (P : ℕ → Type 0) (q e m : Bool) (next : ℕ → Result ℕ ℕ) → (q ≡ true → P 3) → ((k : ℕ) → IfOk (next k) P)
    → IfOk (cond q (Ok 3) (cond e (next 3) (cond m (next 0) (Err 4)))) P
block_step_gives P true e m next p h = p refl
block_step_gives P false true m next p h = h 3
block_step_gives P false false true next p h = h 0
block_step_gives P false false false next p h = tt

pub block_end-closes : (k : ℕ) (bs : List ℕ) → IfOk (block_end k bs) (Closes bs)
unfolding block_end
block_end-closes k [] = tt
block_end-closes (suc k) (c ∷ cs) = further_closes c cs (block_end k cs) (block_end-closes k cs)
block_end-closes zero (c ∷ cs) =
    block_step_gives (Closes (c ∷ cs)) (is_three_quotes (c ∷ cs)) (is_escaped_quotes (c ∷ cs)) (may_stand_in_block c) _
    (λ e. (three_quotes_within (c ∷ cs) e, λ q. third_quote (c ∷ cs) e))
    (λ n. further_closes c cs (block_end n cs) (block_end-closes n cs))

within_of : (bs : List ℕ) (r : Result ℕ ℕ) → IfOk r (Closes bs) → IfOk r (λ n. n ≤ length bs)
within_of bs (Ok n) h = h.0
within_of bs (Err code) h = tt

pub text_end-within : (k : ℕ) (bs : List ℕ) → IfOk (text_end k bs) (λ n. n ≤ length bs)
text_end-within k bs = within_of bs (text_end k bs) (text_end-closes k bs)

pub block_end-within : (k : ℕ) (bs : List ℕ) → IfOk (block_end k bs) (λ n. n ≤ length bs)
block_end-within k bs = within_of bs (block_end k bs) (block_end-closes k bs)

-- ---- bytes that pass a test are ASCII

pub or_below : (c : ℕ) (x y : Bool) → (x ≡ true → c < 128) → (y ≡ true → c < 128) → (x || y) ≡ true → c < 128
or_below c true y h k e = h refl
or_below c false y h k e = k e

within_below : (low high c : ℕ) → high < 128 → is_within low high c ≡ true → c < 128
within_below low high c h e = omega (arith, leb-true c high (and_parts (leb low c) (leb c high) e).1)

pub same_below : (c k : ℕ) → k < 128 → eqb c k ≡ true → c < 128
same_below c k h e = omega (arith, eqb-true c k e)

name_start_below : (c : ℕ) → is_name_start c ≡ true → c < 128
name_start_below c =
    or_below c (is_within 65 90 c || is_within 97 122 c) (eqb c 95)
    (or_below c (is_within 65 90 c) (is_within 97 122 c) (within_below 65 90 c (lit< tt)) (within_below 97 122 c (lit< tt)))
    (same_below c 95 (lit< tt))

name_byte_below : (c : ℕ) → is_name_byte c ≡ true → c < 128
name_byte_below c = or_below c (is_name_start c) (is_digit c) (name_start_below c) (within_below 48 57 c (lit< tt))

number_start_below : (c : ℕ) → is_number_start c ≡ true → c < 128
number_start_below c = or_below c (eqb c 45) (is_digit c) (same_below c 45 (lit< tt)) (within_below 48 57 c (lit< tt))

punctuator_below : (c : ℕ) → is_punctuator c ≡ true → c < 128
punctuator_below c =
    or_below c _ (is_within 123 125 c)
    (or_below c _ (eqb c 93)
    (or_below c _ (eqb c 91)
    (or_below c _ (eqb c 64)
    (or_below c _ (eqb c 61)
    (or_below c _ (eqb c 58)
    (or_below c _ (eqb c 41)
    (or_below c _ (eqb c 40)
    (or_below c _ (eqb c 38)
    (or_below c (eqb c 33) (eqb c 36)
    (same_below c 33 (lit< tt)) (same_below c 36 (lit< tt))) (same_below c 38 (lit< tt))) (same_below c 40 (lit< tt))) (same_below c 41 (lit< tt)))
    (same_below c 58 (lit< tt))) (same_below c 61 (lit< tt))) (same_below c 64 (lit< tt))) (same_below c 91 (lit< tt))) (same_below c 93 (lit< tt)))
    (within_below 123 125 c (lit< tt))

-- the last byte of a run of them, the byte c standing before it
run_below : (p : ℕ → Bool) → ((x : ℕ) → p x ≡ true → x < 128) → (c : ℕ) (cs : List ℕ) → c < 128 → (n : ℕ) → n ≤ prefix_len p cs → get_or (c ∷ cs) n 0 < 128
run_below p below c cs a zero h = a
run_below p below c cs a (suc n) h = below (get_or cs n 0) (prefix_len_passes p cs n 0 (omega arith))

digit_run_below : (ds : List ℕ) (b : Bool) → eqb (get_or ds 0 0) 48 ≡ b → (i : ℕ) → i < cond b 1 (prefix_len is_digit ds) → get_or ds i 0 < 128
digit_run_below ds true e i h = let z : i ≡ 0 = omega arith in rw z (omega (arith, eqb-true (get_or ds 0 0) 48 e))
digit_run_below ds false e i h = within_below 48 57 (get_or ds i 0) (lit< tt) (prefix_len_passes is_digit ds i 0 h)

signed_below : (bs : List ℕ) (b : Bool) → get_or bs 0 0 < 128 → (i : ℕ) → i < cond b 1 0 + digits_len (drop (cond b 1 0) bs) → get_or bs i 0 < 128
signed_below bs false a i h = digit_run_below bs (eqb (get_or bs 0 0) 48) refl i (omega arith)
signed_below bs true a zero h = a
signed_below [] true a (suc i) h = lit< tt
signed_below (c ∷ cs) true a (suc i) h = digit_run_below cs (eqb (get_or cs 0 0) 48) refl i (omega arith)

int_below : (bs : List ℕ) → get_or bs 0 0 < 128 → (i : ℕ) → i < int_len bs → get_or bs i 0 < 128
int_below bs a i h = signed_below bs (eqb (get_or bs 0 0) 45) a i h

-- ---- what begins a text

abbrev IsSound : List ℕ → Head → Type 0
IsSound bs (Ignored n) = n < length bs
IsSound bs (Found kind n) = (n < length bs) × (get_or bs 0 0 < 128) × (get_or bs n 0 < 128)
IsSound bs (Wrong code n) = (n < length bs) × ((n ≡ 0) ⊎ (get_or bs n 0 < 128))

control_in : (c : ℕ) (cs : List ℕ) (n : ℕ) → eqb (length cs) n ≡ false → n ≤ length cs → (n < length cs → may_stand (get_or cs n 0) ≡ false) → IsSound (c ∷ cs) (Wrong 1 (1 + n))
control_in c cs n e l s =
    let ne : ¬ (length cs ≡ n) = eqb-false (length cs) n e in
    let lt : n < length cs = omega arith in
    let o : 1 + n ≡ suc n = omega arith in
    let b : get_or cs n 0 < 32 = leb-false 32 (get_or cs n 0) (or_parts (leb 32 (get_or cs n 0)) (eqb (get_or cs n 0) 9) (s lt)).0 in
    rw o (omega arith, inr (omega arith))

comment-sound : (c : ℕ) (cs : List ℕ) → IsSound (c ∷ cs) (comment cs)
unfolding comment
comment-sound c cs =
    cond_both ((eqb (length cs) (prefix_len may_stand cs)) || is_line_end (get_or cs (prefix_len may_stand cs) 0)) _ _ (IsSound (c ∷ cs))
    (λ _. omega (arith, prefix_len-le-length may_stand cs))
    (λ e. control_in c cs (prefix_len may_stand cs) (or_parts (eqb (length cs) (prefix_len may_stand cs)) (is_line_end (get_or cs (prefix_len may_stand cs) 0)) e).0
    (prefix_len-le-length may_stand cs) (prefix_len_stops may_stand cs 0))

int_before-sound : (bs text rest : List ℕ) → 0 < length bs → length text ≤ length bs → get_or bs 0 0 < 128 → get_or bs (length text - 1) 0 < 128 → IsSound bs (int_before text rest)
unfolding int_before
int_before-sound bs text rest h l a b =
    cond_both (is_float_mark (get_or rest 0 0)) _ _ (IsSound bs) (λ _. (h, inl refl))
    (λ _. cond_both (is_name_byte (get_or rest 0 0)) _ _ (IsSound bs) (λ _. (h, inl refl))
    (λ _. cond_both (is_in_i64 text) _ _ (IsSound bs) (λ _. (omega arith, a, b)) (λ _. (h, inl refl))))

pub digits_some : (s d : ℕ) → ¬ (d ≡ 0) → 0 < s + d
digits_some s d h = omega arith

last_below : (bs : List ℕ) (n : ℕ) → 0 < n → ((i : ℕ) → i < n → get_or bs i 0 < 128) → get_or bs (length (take n bs) - 1) 0 < 128
last_below bs n p h = h (length (take n bs) - 1) (omega (arith, length-take n bs))

number-sound : (bs : List ℕ) → 0 < length bs → get_or bs 0 0 < 128 → IsSound bs (number bs)
unfolding number
number-sound bs h a =
    cond_both (eqb (digits_len (drop (sign_len bs) bs)) 0) _ _ (IsSound bs) (λ _. (h, inl refl))
    (λ e. int_before-sound bs (take (int_len bs) bs) (drop (int_len bs) bs) h (omega (arith, length-take (int_len bs) bs)) a
    (last_below bs (int_len bs) (digits_some _ _ (eqb-false _ 0 e)) (int_below bs a)))

string_head-sound : (bs : List ℕ) (kind : TokenKind) (more : ℕ) (r : Result ℕ ℕ) → 0 < length bs → get_or bs 0 0 < 128
    → IfOk r (λ n. (more + n < length bs) × (get_or bs (more + n) 0 ≡ 34)) → IsSound bs (string_head kind more r)
string_head-sound bs kind more (Ok n) h a p = (p.0, a, omega (arith, p.1))
string_head-sound bs kind more (Err code) h a p = (h, inl refl)

text_at : (c : ℕ) (cs : List ℕ) (r : Result ℕ ℕ) → IfOk r (Closes cs) → IfOk r (λ n. (0 + n < length (c ∷ cs)) × (get_or (c ∷ cs) (0 + n) 0 ≡ 34))
text_at c cs (Ok n) h = let e : 0 + n ≡ n = omega arith in rw e (omega (arith, h.0), h.1 c)
text_at c cs (Err code) h = tt

block_at : (c : ℕ) (cs : List ℕ) (r : Result ℕ ℕ) → 2 ≤ length cs → IfOk r (Closes (drop 2 cs)) → IfOk r (λ n. (2 + n < length (c ∷ cs)) × (get_or (c ∷ cs) (2 + n) 0 ≡ 34))
block_at c cs (Ok zero) l h = absurd (omega (arith, h.1 0))
block_at c cs (Ok (suc n)) l h =
    let e : 2 + suc n ≡ suc (2 + n) = omega arith in
    rw e (omega (arith, h.0, length-drop 2 cs), rw (get_or-drop 2 cs n 0) at (h.1 0))
block_at c cs (Err code) l h = tt

two_quotes_within : (cs : List ℕ) → is_two_quotes cs ≡ true → 2 ≤ length cs
two_quotes_within cs e =
    let q : get_or cs 1 0 ≡ 34 = eqb-true (get_or cs 1 0) 34 (and_parts (eqb (get_or cs 0 0) 34) (eqb (get_or cs 1 0) 34) e).1 in
    omega (arith, stands_within cs 1 (omega arith))

string-sound : (c : ℕ) (cs : List ℕ) → c < 128 → IsSound (c ∷ cs) (string cs)
unfolding string
string-sound c cs a =
    cond_both (is_two_quotes cs) _ _ (IsSound (c ∷ cs))
    (λ e. string_head-sound (c ∷ cs) Block 2 (block_end 0 (drop 2 cs)) (omega arith) a (block_at c cs (block_end 0 (drop 2 cs)) (two_quotes_within cs e) (block_end-closes 0 (drop 2 cs))))
    (λ _. string_head-sound (c ∷ cs) Text 0 (text_end 0 cs) (omega arith) a (text_at c cs (text_end 0 cs) (text_end-closes 0 cs)))

mark_within : (bs : List ℕ) → is_mark bs ≡ true → 2 < length bs
mark_within bs e =
    let q = eqb-true (get_or bs 2 0) 191 (and_parts (eqb (get_or bs 0 0) 239 && eqb (get_or bs 1 0) 187) (eqb (get_or bs 2 0) 191) e).1 in
    stands_within bs 2 (omega (arith, q))

spread_within : (bs : List ℕ) → is_spread bs ≡ true → (2 < length bs) × (get_or bs 0 0 < 128) × (get_or bs 2 0 < 128)
spread_within bs e =
    let p = and_parts (eqb (get_or bs 0 0) 46 && eqb (get_or bs 1 0) 46) (eqb (get_or bs 2 0) 46) e in
    let q = eqb-true (get_or bs 2 0) 46 p.1 in
    let r = eqb-true (get_or bs 0 0) 46 (and_parts (eqb (get_or bs 0 0) 46) (eqb (get_or bs 1 0) 46) p.0).0 in
    (stands_within bs 2 (omega (arith, q)), omega (arith, r), omega (arith, q))

head-sound : (bs : List ℕ) → 0 < length bs → IsSound bs (head bs)
head-sound [] h = absurd (omega arith)
head-sound (c ∷ cs) h =
    head_by (IsSound (c ∷ cs)) (c ∷ cs)
    (λ _. h)
    (λ e. mark_within (c ∷ cs) e)
    (λ _. comment-sound c cs)
    (λ e. (h, punctuator_below c e, punctuator_below c e))
    (λ e. spread_within (c ∷ cs) e)
    (λ e. (omega (arith, prefix_len-le-length is_name_byte cs), name_start_below c e, run_below is_name_byte name_byte_below c cs (name_start_below c e) (prefix_len is_name_byte cs) (omega arith)))
    (λ e. number-sound (c ∷ cs) h (number_start_below c e))
    (λ e. string-sound c cs (omega (arith, e)))
    (h, inl refl)

moves : (bs : List ℕ) (at : ℕ) → at < length bs → (h : Head) → IsSound (drop at bs) h → IsSoundAt bs at h
moves bs at l (Ignored n) h = omega (arith, h, length-drop at bs)
moves bs at l (Found kind n) h = (omega (arith, h.0, length-drop at bs), rw (get_or-drop at bs 0 0, add-zero) at h.1, rw (get_or-drop at bs n 0) at h.2)
moves bs at l (Wrong code n) h = (omega (arith, h.0, length-drop at bs), ⊎_elim (λ z. inl z) (λ b. inr (rw (get_or-drop at bs n 0) at b)) h.1)

pub head-sound_at : (bs : List ℕ) (at : ℕ) → at < length bs → IsSoundAt bs at (head (drop at bs))
head-sound_at bs at l = moves bs at l (head (drop at bs)) (head-sound (drop at bs) (omega (arith, length-drop at bs)))
