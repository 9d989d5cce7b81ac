-- One step of reading a text.
use Rattle.std.proofs.Common.{◌≡◌, ℕ, zero, suc, ◌+◌, ◌-◌, ◌<◌, ◌≤◌, List, [], ◌∷◌, length, take, drop, refl, arith, ap, ◌∙◌, add-zero}
use Rattle.std.proofs.lemmas.List.{drop-drop, drop_all, length-drop}
use Rattle.std.specs.List.{between}
use Rattle.gql_lex.specs.declared.tokens.TokenKind.{TokenKind}
use Rattle.gql_lex.specs.declared.tokens.Head.TheVariants.{Ignored, Found, Wrong}
use Rattle.gql_lex.specs.Heads.{head}
use Rattle.gql_lex.specs.Sources.{ended, faulty, token, read, read_head, lex_from}

read-skip : (n at : ℕ) (bs : List ℕ) → read n at bs ≡ read 0 (at + n) (drop n bs)
unfolding read
read-skip zero at bs = rw add-zero refl
read-skip (suc n) at [] = refl
read-skip (suc n) at (c ∷ cs) = let e : at + 1 + n ≡ at + suc n = omega arith in read-skip n (at + 1) cs ∙ ap (λ k. read 0 k (drop n cs)) e

read_first : (at : ℕ) (bs : List ℕ) → 0 < length bs → read 0 at bs ≡ read_head (head bs) at bs (λ n. read n (at + 1) (drop 1 bs))
unfolding read
read_first at [] h = absurd (omega arith)
read_first at (c ∷ cs) h = refl

read_on : (at n : ℕ) (bs : List ℕ) → read n (at + 1) (drop 1 bs) ≡ lex_from (at + (1 + n)) (drop (1 + n) bs)
read_on at n bs = let e : at + 1 + n ≡ at + (1 + n) = omega arith in rw (read-skip n (at + 1) (drop 1 bs), e, drop-drop n 1 bs) refl

pub lexed_ignored : (at n : ℕ) (bs : List ℕ) → 0 < length bs → Ignored n ≡ head bs → lex_from at bs ≡ lex_from (at + (1 + n)) (drop (1 + n) bs)
lexed_ignored at n bs h e = rw (read_first at bs h, ← e) (read_on at n bs)

lexed_found : (at n : ℕ) (kind : TokenKind) (bs : List ℕ) → 0 < length bs → Found kind n ≡ head bs
    → lex_from at bs ≡ token (record { kind = kind; text = take (1 + n) bs; start = at; end = at + (1 + n) }) (lex_from (at + (1 + n)) (drop (1 + n) bs))
lexed_found at n kind bs h e = rw (read_first at bs h, ← e) (ap (λ s. token (record { kind = kind; text = take (1 + n) bs; start = at; end = at + (1 + n) }) s) (read_on at n bs))

lexed_wrong : (at n code : ℕ) (bs : List ℕ) → 0 < length bs → Wrong code n ≡ head bs → lex_from at bs ≡ faulty code (at + n)
lexed_wrong at n code bs h e = rw (read_first at bs h, ← e) refl

pub lexed_none : (at i : ℕ) (bs : List ℕ) → length bs ≤ i → lex_from at (drop i bs) ≡ ended
unfolding read
lexed_none at i bs h = rw (drop_all i bs h) refl

-- ---- the same at an offset of a text

pub at_ignored : (bs : List ℕ) (at n : ℕ) → at < length bs → Ignored n ≡ head (drop at bs) → lex_from at (drop at bs) ≡ lex_from (at + (1 + n)) (drop (at + (1 + n)) bs)
at_ignored bs at n l e = lexed_ignored at n (drop at bs) (omega (arith, length-drop at bs)) e ∙ ap (λ r. lex_from (at + (1 + n)) r) (drop-drop (1 + n) at bs)

pub at_found : (bs : List ℕ) (at n : ℕ) (kind : TokenKind) → at < length bs → Found kind n ≡ head (drop at bs)
    → lex_from at (drop at bs) ≡ token (record { kind = kind; text = between at (at + (1 + n)) bs; start = at; end = at + (1 + n) }) (lex_from (at + (1 + n)) (drop (at + (1 + n)) bs))
at_found bs at n kind l e =
    let m : at + (1 + n) - at ≡ 1 + n = omega arith in
    rw (lexed_found at n kind (drop at bs) (omega (arith, length-drop at bs)) e, drop-drop (1 + n) at bs, m) refl

pub at_wrong : (bs : List ℕ) (at n code : ℕ) → at < length bs → Wrong code n ≡ head (drop at bs) → lex_from at (drop at bs) ≡ faulty code (at + n)
at_wrong bs at n code l e = lexed_wrong at n code (drop at bs) (omega (arith, length-drop at bs)) e
