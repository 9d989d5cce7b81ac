-- Behind ignored text a character begins, and what the tokens of a text say of it.
use Rattle.std.proofs.Common.{◌≡◌, ℕ, zero, suc, ◌+◌, ◌-◌, ◌<◌, ◌≤◌, ◌⊎◌, true, eqb, ◌&&◌, ◌||◌, List, [], ◌∷◌, ◌++◌, length, get_or, take, drop, Result, Ok, Err, ◌/◌, lit<, refl, arith, sym, inl, inr, ⊎_elim, IsUtf8, IsCharBoundary, encode_utf8_all}
use Rattle.std.specs.List.{prefix_len}
use Rattle.std.specs.Char.{encode_utf8, len_utf8}
use Rattle.std.proofs.lemmas.Bool.{cond_both, and_parts, or_cases, eqb-true, cases_lt, lt-ltb, le-ltb}
use Rattle.std.proofs.lemmas.List.{length-drop, get_or-drop}
use Rattle.std.proofs.lemmas.Str.{IsUtf8-drop, IsCharBoundary-start, IsCharBoundary-before_ascii, IsCharBoundary-after_ascii, IsCharBoundary-past_char}
use Rattle.gql_lex.specs.declared.tokens.TokenKind.TheVariants.{Text, Block}
use Rattle.gql_lex.specs.declared.tokens.TokenKind.{TokenKind}
use Rattle.gql_lex.specs.declared.tokens.Head.{Head}
use Rattle.gql_lex.specs.declared.tokens.Head.TheVariants.{Ignored, Found, Wrong}
use Rattle.gql_lex.specs.Characters.{is_line_end, is_blank, is_punctuator, is_spread, is_mark, is_ignored, is_number_start, is_float_mark, is_two_quotes, may_stand}
use Rattle.gql_plain.specs.Names.{is_name_start, is_name_byte}
use Rattle.gql_lex.specs.Numbers.{sign_len, digits_len, int_len, is_in_i64}
use Rattle.gql_lex.specs.Strings.{text_end, block_end}
use Rattle.gql_lex.specs.Heads.{comment, int_before, number, string, string_head, head, IsSoundAt}
use Rattle.gql_lex.specs.Sources.{Source, ended, faulty, token, lex_from}
use Rattle.gql_lex.specs.Descriptions.{Describes}
use Rattle.gql_lex.proofs.Extents.{or_below, same_below, head-sound_at}
use Rattle.gql_lex.proofs.Breaks.{line_end_below}
use Rattle.gql_lex.proofs.Reading.{at_ignored, at_found, at_wrong, lexed_none}
use Rattle.gql_lex.proofs.Ignored.{gap_none, gap_more}
use Rattle.gql_lex.proofs.Whole.{found_token}

-- ---- a byte order mark

first_byte : (x : ℕ) (rest : List ℕ) → get_or (encode_utf8 x ++ rest) 0 0 ≡ 239 → len_utf8 x ≡ 3
unfolding encode_utf8
first_byte x rest e = ⊎_elim
    (λ a. let t = lt-ltb x 128 a in let f : x ≡ 239 = rw t at e in absurd (omega arith))
    (λ a. ⊎_elim
    (λ b. let t = le-ltb x 128 a in let u = lt-ltb x 2048 b in let f : 192 + x / 64 ≡ 239 = rw (t, u) at e in absurd (omega arith))
    (λ b. ⊎_elim
    (λ c. let t = le-ltb x 128 a in let u = le-ltb x 2048 b in let v = lt-ltb x 65536 c in rw (t, u, v) refl)
    (λ c. let t = le-ltb x 128 a in let u = le-ltb x 2048 b in let v = le-ltb x 65536 c in let f : 240 + x / 262144 ≡ 239 = rw (t, u, v) at e in absurd (omega arith))
    (cases_lt x 65536))
    (cases_lt x 2048))
    (cases_lt x 128)

mark_first : (bs : List ℕ) → is_mark bs ≡ true → get_or bs 0 0 ≡ 239
mark_first bs e = eqb-true (get_or bs 0 0) 239 (and_parts (eqb (get_or bs 0 0) 239) (eqb (get_or bs 1 0) 187) (and_parts (eqb (get_or bs 0 0) 239 && eqb (get_or bs 1 0) 187) (eqb (get_or bs 2 0) 191) e).0).0

mark_by : (bs : List ℕ) (at : ℕ) → at ≤ length bs → IsUtf8 (drop at bs) → is_mark (drop at bs) ≡ true → IsCharBoundary bs (at + 3)
mark_by bs at l ([], s) e =
    let z : get_or (drop at bs) 0 0 ≡ 0 = rw (sym s.1) refl in
    absurd (omega (arith, z, mark_first (drop at bs) e))
mark_by bs at l (x ∷ xs, s) e =
    let f : get_or (encode_utf8 x ++ encode_utf8_all xs) 0 0 ≡ 239 = rw s.1 (mark_first (drop at bs) e) in
    rw (first_byte x (encode_utf8_all xs) f) at (IsCharBoundary-past_char bs (encode_utf8_all xs) at x l (x ∷ xs, s) (sym s.1))

mark_at : (bs : List ℕ) (at : ℕ) → IsUtf8 bs → IsCharBoundary bs at → is_mark (drop at bs) ≡ true → IsCharBoundary bs (at + 3)
mark_at bs at u b e = mark_by bs at b.0 (IsUtf8-drop bs at u b) e

-- ---- ignored text

-- where ignored text of 1 + n bytes ends
abbrev Ends : List ℕ → ℕ → Type 0
Ends bs n = ((n ≡ 0) × (get_or bs 0 0 < 128)) ⊎ (((n ≡ 2) × (is_mark bs ≡ true)) ⊎ ((1 + n ≡ length bs) ⊎ (get_or bs (1 + n) 0 < 128)))

abbrev IfIgnored : List ℕ → Head → Type 0
IfIgnored bs (Ignored n) = Ends bs n
IfIgnored bs (Found kind n) = Unit {0}
IfIgnored bs (Wrong code n) = Unit {0}

ignored_below : (c : ℕ) → is_ignored c ≡ true → c < 128
ignored_below c =
    or_below c (is_blank c) (is_line_end c)
    (or_below c ((eqb c 9) || (eqb c 32)) (eqb c 44) (or_below c (eqb c 9) (eqb c 32) (same_below c 9 (lit< tt)) (same_below c 32 (lit< tt))) (same_below c 44 (lit< tt)))
    (line_end_below c)

comment_ends : (c : ℕ) (cs : List ℕ) → IfIgnored (c ∷ cs) (comment cs)
unfolding comment
comment_ends c cs =
    cond_both ((eqb (length cs) (prefix_len may_stand cs)) || is_line_end (get_or cs (prefix_len may_stand cs) 0)) _ _ (IfIgnored (c ∷ cs))
    (λ e. inr (inr (⊎_elim
    (λ a. inl (omega (arith, eqb-true (length cs) (prefix_len may_stand cs) a)))
    (λ b. let o : 1 + prefix_len may_stand cs ≡ suc (prefix_len may_stand cs) = omega arith in
    inr (rw o (line_end_below (get_or cs (prefix_len may_stand cs) 0) b)))
    (or_cases (eqb (length cs) (prefix_len may_stand cs)) (is_line_end (get_or cs (prefix_len may_stand cs) 0)) e))))
    (λ _. tt)

int_ends : (bs text rest : List ℕ) → IfIgnored bs (int_before text rest)
unfolding int_before
int_ends bs text rest =
    cond_both (is_float_mark (get_or rest 0 0)) _ _ (IfIgnored bs) (λ _. tt)
    (λ _. cond_both (is_name_byte (get_or rest 0 0)) _ _ (IfIgnored bs) (λ _. tt)
    (λ _. cond_both (is_in_i64 text) _ _ (IfIgnored bs) (λ _. tt) (λ _. tt)))

number_ends : (bs all : List ℕ) → IfIgnored all (number bs)
unfolding number
number_ends bs all = cond_both (eqb (digits_len (drop (sign_len bs) bs)) 0) _ _ (IfIgnored all) (λ _. tt) (λ _. int_ends all (take (int_len bs) bs) (drop (int_len bs) bs))

open_ends : (bs : List ℕ) (kind : TokenKind) (more : ℕ) (r : Result ℕ ℕ) → IfIgnored bs (string_head kind more r)
open_ends bs kind more (Ok n) = tt
open_ends bs kind more (Err code) = tt

string_ends : (bs cs : List ℕ) → IfIgnored bs (string cs)
unfolding string
string_ends bs cs = cond_both (is_two_quotes cs) _ _ (IfIgnored bs) (λ _. open_ends bs Block 2 (block_end 0 (drop 2 cs))) (λ _. open_ends bs Text 0 (text_end 0 cs))

head_ends : (bs : List ℕ) → 0 < length bs → IfIgnored bs (head bs)
unfolding head
head_ends [] h = absurd (omega arith)
head_ends (c ∷ cs) h =
    cond_both (is_ignored c) _ _ (IfIgnored (c ∷ cs)) (λ e. inl (refl, ignored_below c e))
    (λ _. cond_both (is_mark (c ∷ cs)) _ _ (IfIgnored (c ∷ cs)) (λ e. inr (inl (refl, e)))
    (λ _. cond_both (eqb c 35) _ _ (IfIgnored (c ∷ cs)) (λ _. comment_ends c cs)
    (λ _. cond_both (is_punctuator c) _ _ (IfIgnored (c ∷ cs)) (λ _. tt)
    (λ _. cond_both (is_spread (c ∷ cs)) _ _ (IfIgnored (c ∷ cs)) (λ _. tt)
    (λ _. cond_both (is_name_start c) _ _ (IfIgnored (c ∷ cs)) (λ _. tt)
    (λ _. cond_both (is_number_start c) _ _ (IfIgnored (c ∷ cs)) (λ _. number_ends (c ∷ cs) (c ∷ cs))
    (λ _. cond_both (eqb c 34) _ _ (IfIgnored (c ∷ cs)) (λ _. string_ends (c ∷ cs) cs) (λ _. tt))))))))

at_end : (bs : List ℕ) (k : ℕ) → length bs ≡ k → IsCharBoundary bs k
at_end bs k e = (omega arith, λ w x. absurd (omega arith))

in_or_at_end : (bs : List ℕ) (k : ℕ) → k ≤ length bs → get_or bs k 0 < 128 → IsCharBoundary bs k
in_or_at_end bs k l c = (l, λ w x. absurd (omega (arith, c, x)))

-- behind ignored text a character begins
behind : (bs : List ℕ) (at n : ℕ) → IsUtf8 bs → IsCharBoundary bs at → at + n < length bs → Ends (drop at bs) n → IsCharBoundary bs (at + (1 + n))
behind bs at n u b l e = ⊎_elim
    (λ a. let z : at + 0 ≡ at = omega arith in
    let c = rw (get_or-drop at bs 0 0, z) at a.1 in
    let i : at + 1 ≡ at + (1 + n) = omega (arith, a.0) in
    rw i at (IsCharBoundary-after_ascii bs at u (omega arith) c))
    (λ r. ⊎_elim
    (λ m. let i : at + 3 ≡ at + (1 + n) = omega (arith, m.0) in rw i at (mark_at bs at u b m.1))
    (λ q. ⊎_elim
    (λ w. at_end bs (at + (1 + n)) (omega (arith, w, length-drop at bs)))
    (λ c. in_or_at_end bs (at + (1 + n)) (omega arith) (rw (get_or-drop at bs (1 + n) 0) at c))
    q)
    r)
    e

-- ---- the whole text

further_back : (text : List ℕ) (at n : ℕ) (s : Source) → at + n < length text → Ignored n ≡ head (drop at text) → Describes text (at + (1 + n)) s → Describes text at s
further_back text at n ended l e d = gap_more text at n (length text) l e (omega arith) (omega arith) d
further_back text at n (faulty code k) l e d = (omega (arith, d.0), d.1, d.2)
further_back text at n (token p rest) l e d = (
  record {
    behind = omega (arith, d.0.behind);
    gap = gap_more text at n p.start l e d.0.behind (omega (arith, d.0.some, d.0.within)) d.0.gap;
    some = d.0.some;
    within = d.0.within;
    text = d.0.text;
    form = d.0.form;
    start = d.0.start;
    end = d.0.end;
  },
  d.1,
)

sound_of : (text : List ℕ) (at : ℕ) → at < length text → (h : Head) → h ≡ head (drop at text) → IsSoundAt text at h
sound_of text at l h e = rw e (head-sound_at text at l)

ends_of : (text : List ℕ) (at : ℕ) → at < length text → (h : Head) → h ≡ head (drop at text) → IfIgnored (drop at text) h
ends_of text at l h e = rw e (head_ends (drop at text) (omega (arith, length-drop at text)))

tells_head : (text : List ℕ) (at : ℕ) → IsUtf8 text → IsCharBoundary text at → at < length text → (h : Head) → h ≡ head (drop at text)
    → ((k : ℕ) → at < k → IsCharBoundary text k → Describes text k (lex_from k (drop k text))) → Describes text at (lex_from at (drop at text))
tells_head text at u b l (Ignored n) e more =
    let s = sound_of text at l (Ignored n) e in
    let i = behind text at n u b s (ends_of text at l (Ignored n) e) in
    rw (at_ignored text at n l e) (further_back text at n _ s e (more (at + (1 + n)) (omega arith) i))
tells_head text at u b l (Found kind n) e more =
    let s = sound_of text at l (Found kind n) e in
    let o : at + n + 1 ≡ at + (1 + n) = omega arith in
    let m : at + (1 + n) - at ≡ 1 + n = omega arith in
    let i = rw o at (IsCharBoundary-after_ascii text (at + n) u s.0 s.2) in
    let t = found_token (drop at text) kind n (omega (arith, s.0, length-drop at text)) (sym e) in
    rw (at_found text at n kind l e)
    (record { behind = omega arith; gap = gap_none text at at (omega arith); some = omega arith; within = omega (arith, s.0); text = refl; form = rw m t; start = b; end = i }, more (at + (1 + n)) (omega arith) i)
tells_head text at u b l (Wrong code n) e more =
    let s = sound_of text at l (Wrong code n) e in
    rw (at_wrong text at n code l e) (omega arith, s.0, ⊎_elim (λ z. let i : at ≡ at + n = omega (arith, z) in rw i at b) (λ a. IsCharBoundary-before_ascii text (at + n) s.0 a) s.1)

describes_by : (fuel : ℕ) (text : List ℕ) (at : ℕ) → IsUtf8 text → IsCharBoundary text at → length text ≤ at + fuel → Describes text at (lex_from at (drop at text))
describes_by zero text at u b l = rw (lexed_none at at text (omega arith)) (gap_none text at (length text) (omega arith))
describes_by (suc fuel) text at u b l = ⊎_elim
    (λ w. tells_head text at u b w (head (drop at text)) refl (λ k m c. describes_by fuel text k u c (omega arith)))
    (λ w. rw (lexed_none at at text w) (gap_none text at (length text) w))
    (cases_lt at (length text))

pub describes : (text : List ℕ) → IsUtf8 text → Describes text 0 (lex_from 0 text)
describes text u = describes_by (length text) text 0 u (IsCharBoundary-start text u) (omega arith)
