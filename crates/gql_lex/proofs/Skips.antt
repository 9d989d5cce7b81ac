-- Steps of the functions that say where a string ends.
use Rattle.std.proofs.Common.{◌≡◌, ℕ, zero, suc, ◌+◌, ◌<◌, ◌≤◌, true, false, cond, List, [], ◌∷◌, length, get_or, drop, Result, Ok, Err, refl, arith, sym, ap, ◌∙◌}
use Rattle.std.proofs.lemmas.Bool.{ne_eqb}
use Rattle.std.proofs.lemmas.List.{drop-drop, drop_all}
use Rattle.gql_lex.specs.Characters.{may_stand, may_stand_in_block, is_three_quotes, is_escaped_quotes}
use Rattle.gql_lex.specs.Strings.{further, escape_len, text_end, block_end, text_step}

pub further-zero : (r : Result ℕ ℕ) → further 0 r ≡ r
further-zero (Ok n) = let e : 0 + n ≡ n = omega arith in ap (λ (k : ℕ). Ok k) e
further-zero (Err code) = refl

pub further-further : (m n : ℕ) (r : Result ℕ ℕ) → further m (further n r) ≡ further (m + n) r
further-further m n (Ok k) = let e : m + (n + k) ≡ m + n + k = omega arith in ap (λ (k : ℕ). Ok k) e
further-further m n (Err code) = refl

further-suc : (n : ℕ) (r : Result ℕ ℕ) → further 1 (further n r) ≡ further (suc n) r
further-suc n r = let e : 1 + n ≡ suc n = omega arith in rw (further-further, e) refl

pub text_end-skip : (n : ℕ) (bs : List ℕ) → text_end n bs ≡ further n (text_end 0 (drop n bs))
unfolding text_end
text_end-skip zero bs = sym (further-zero (text_end 0 bs))
text_end-skip (suc n) [] = refl
text_end-skip (suc n) (c ∷ cs) = ap (λ r. further 1 r) (text_end-skip n cs) ∙ further-suc n (text_end 0 (drop n cs))

pub block_end-skip : (n : ℕ) (bs : List ℕ) → block_end n bs ≡ further n (block_end 0 (drop n bs))
unfolding block_end
block_end-skip zero bs = sym (further-zero (block_end 0 bs))
block_end-skip (suc n) [] = refl
block_end-skip (suc n) (c ∷ cs) = ap (λ r. further 1 r) (block_end-skip n cs) ∙ further-suc n (block_end 0 (drop n cs))

-- ---- the step at the first byte of a Text

text_first : (bs : List ℕ) → 0 < length bs → text_end 0 bs ≡ text_step (get_or bs 0 0) (drop 1 bs) (λ n. further 1 (text_end n (drop 1 bs)))
unfolding text_end
text_first [] h = absurd (omega arith)
text_first (c ∷ cs) h = refl

pub text_quote : (bs : List ℕ) → 0 < length bs → get_or bs 0 0 ≡ 34 → text_end 0 bs ≡ Ok 1
text_quote bs h e = rw (text_first bs h, e) refl

pub text_escape : (bs : List ℕ) (n : ℕ) → 0 < length bs → get_or bs 0 0 ≡ 92 → Ok n ≡ escape_len (drop 1 bs) → text_end 0 bs ≡ further (1 + n) (text_end 0 (drop (1 + n) bs))
text_escape bs n h e q = rw (text_first bs h, e, ← q, text_end-skip n (drop 1 bs), drop-drop n 1 bs, further-further) refl

pub text_escape_bad : (bs : List ℕ) (code : ℕ) → 0 < length bs → get_or bs 0 0 ≡ 92 → Err code ≡ escape_len (drop 1 bs) → text_end 0 bs ≡ Err code
text_escape_bad bs code h e q = rw (text_first bs h, e, ← q) refl

pub text_plain : (bs : List ℕ) → 0 < length bs → ¬ (get_or bs 0 0 ≡ 34) → ¬ (get_or bs 0 0 ≡ 92) → may_stand (get_or bs 0 0) ≡ true → text_end 0 bs ≡ further 1 (text_end 0 (drop 1 bs))
text_plain bs h q e m = rw (text_first bs h, ne_eqb _ _ q, ne_eqb _ _ e, m) refl

pub text_bad : (bs : List ℕ) → 0 < length bs → ¬ (get_or bs 0 0 ≡ 34) → ¬ (get_or bs 0 0 ≡ 92) → may_stand (get_or bs 0 0) ≡ false → text_end 0 bs ≡ Err 4
text_bad bs h q e m = rw (text_first bs h, ne_eqb _ _ q, ne_eqb _ _ e, m) refl

-- ---- the step at the first byte of a Block

block_first : (bs : List ℕ) → 0 < length bs → block_end 0 bs ≡ cond (is_three_quotes bs) (Ok 3)
    (cond (is_escaped_quotes bs) (further 1 (block_end 3 (drop 1 bs)))
    (cond (may_stand_in_block (get_or bs 0 0)) (further 1 (block_end 0 (drop 1 bs))) (Err 4)))
unfolding block_end
block_first [] h = absurd (omega arith)
block_first (c ∷ cs) h = refl

pub block_quotes : (bs : List ℕ) → 0 < length bs → is_three_quotes bs ≡ true → block_end 0 bs ≡ Ok 3
block_quotes bs h q = rw (block_first bs h, q) refl

pub block_escape : (bs : List ℕ) → 0 < length bs → is_three_quotes bs ≡ false → is_escaped_quotes bs ≡ true → block_end 0 bs ≡ further 4 (block_end 0 (drop 4 bs))
block_escape bs h q e = rw (block_first bs h, q, e, block_end-skip 3 (drop 1 bs), drop-drop 3 1 bs, further-further) refl

pub block_plain : (bs : List ℕ) → 0 < length bs → is_three_quotes bs ≡ false → is_escaped_quotes bs ≡ false → may_stand_in_block (get_or bs 0 0) ≡ true
    → block_end 0 bs ≡ further 1 (block_end 0 (drop 1 bs))
block_plain bs h q e m = rw (block_first bs h, q, e, m) refl

pub block_bad : (bs : List ℕ) → 0 < length bs → is_three_quotes bs ≡ false → is_escaped_quotes bs ≡ false → may_stand_in_block (get_or bs 0 0) ≡ false → block_end 0 bs ≡ Err 4
block_bad bs h q e m = rw (block_first bs h, q, e, m) refl

-- one step more of a loop over a string
pub further_more : (i n : ℕ) (whole here there : Result ℕ ℕ) → whole ≡ further i here → here ≡ further n there → whole ≡ further (i + n) there
further_more i n whole here there w h = w ∙ ap (λ r. further i r) h ∙ further-further i n there

-- a loop over a string comes to the string's end, or to that of its bytes
pub further_end : (i n : ℕ) (whole here : Result ℕ ℕ) → whole ≡ further i here → here ≡ Ok n → Ok (i + n) ≡ whole
further_end i n whole here w h = sym (w ∙ ap (λ r. further i r) h)

pub further_err : (i code : ℕ) (whole here : Result ℕ ℕ) → whole ≡ further i here → here ≡ Err code → Err code ≡ whole
further_err i code whole here w h = sym (w ∙ ap (λ r. further i r) h)

pub text_none : (bs : List ℕ) (i : ℕ) → length bs ≤ i → text_end 0 (drop i bs) ≡ Err 4
unfolding text_end
text_none bs i h = rw (drop_all i bs h) refl

pub block_none : (bs : List ℕ) (i : ℕ) → length bs ≤ i → block_end 0 (drop i bs) ≡ Err 4
unfolding block_end
block_none bs i h = rw (drop_all i bs h) refl
