-- What is written is read back, token by token, from the last to the first.
use Rattle.std.proofs.Common.{◌≡◌, ℕ, zero, suc, ◌+◌, true, false, cond, List, [], ◌∷◌, ◌++◌, length, take, Option, option_map, Ok, refl, ap, ◌∙◌, arith, eqb}
use Rattle.std.proofs.lemmas.Bool.Decides.{nat_tests}
use Rattle.std.specs.List.{prefix_len, AllByRecursion}
use Rattle.plan_ir.specs.gql_lex.declared.tokens.TokenKind.{TokenKind}
use Rattle.plan_ir.specs.gql_lex.declared.tokens.TokenKind.TheVariants.{Punct, Name, Int, Text, Block}
use Rattle.plan_ir.specs.gql_lex.Characters.{is_punctuator, is_ignored}
use Rattle.plan_ir.specs.gql_plain.Names.{is_name_start, is_name_byte}
use Rattle.plan_ir.proofs.gql_lex_laws.Fronts.{comment_by, head_by, number_by, string_by}
use Rattle.plan_ir.specs.gql_lex.Heads.{head, string_head}
use Rattle.plan_ir.specs.gql_lex.Sources.{read_head, read}
use Rattle.plan_ir.specs.gql_lex.Toks.{Tok, toks_of, tok_of, tok_of_piece, tokens_of, punctuator_of}
use Rattle.plan_ir.specs.gql_lex.Toks as tok

-- the tokens of a text, whatever its offset
abbrev pub toks_at : ℕ → List ℕ → Option (List Tok)
toks_at at bs = toks_of (read 0 at bs)

-- the first bytes are passed over
pub read_past : (n at : ℕ) (xs rest : List ℕ) → length xs ≡ n → read n at (xs ++ rest) ≡ read 0 (at + n) rest
unfolding read
read_past zero at [] rest e = ap (λ k. read 0 k rest) (omega arith)
read_past zero at (x ∷ xs) rest e = absurd (omega arith)
read_past (suc n) at [] rest e = absurd (omega arith)
read_past (suc n) at (x ∷ xs) rest e = read_past n (at + 1) xs rest (omega arith) ∙ ap (λ k. read 0 k rest) (omega arith)

-- the tokens do not depend on the offset
head_anywhere : (c : ℕ) (cs : List ℕ) (at other : ℕ) → ((n : ℕ) → toks_of (read n (at + 1) cs) ≡ toks_of (read n (other + 1) cs))
    → toks_of (read_head (head (c ∷ cs)) at (c ∷ cs) (λ n. read n (at + 1) cs)) ≡ toks_of (read_head (head (c ∷ cs)) other (c ∷ cs) (λ n. read n (other + 1) cs))
head_anywhere c cs at other next =
    head_by (λ h. toks_of (read_head h at (c ∷ cs) (λ n. read n (at + 1) cs)) ≡ toks_of (read_head h other (c ∷ cs) (λ n. read n (other + 1) cs))) (c ∷ cs)
    (λ e. next 0) (λ e. next 2)
    (λ e. comment_by (λ h. toks_of (read_head h at (c ∷ cs) (λ n. read n (at + 1) cs)) ≡ toks_of (read_head h other (c ∷ cs) (λ n. read n (other + 1) cs))) cs next (λ n. refl))
    (λ e. found Punct 0) (λ e. found Punct 2) (λ e. found Name (prefix_len is_name_byte cs))
    (λ e. number_by (λ h. toks_of (read_head h at (c ∷ cs) (λ n. read n (at + 1) cs)) ≡ toks_of (read_head h other (c ∷ cs) (λ n. read n (other + 1) cs))) (c ∷ cs) (found Int) (λ code. refl))
    (λ e. string_by (λ h. toks_of (read_head h at (c ∷ cs) (λ n. read n (at + 1) cs)) ≡ toks_of (read_head h other (c ∷ cs) (λ n. read n (other + 1) cs))) cs (found Text) (found Block) (λ code. refl))
    refl
  where
    found : (kind : TokenKind) (m : ℕ)
        → option_map (λ ts. tok_of kind (take (1 + m) (c ∷ cs)) ∷ ts) (toks_of (read m (at + 1) cs)) ≡ option_map (λ ts. tok_of kind (take (1 + m) (c ∷ cs)) ∷ ts) (toks_of (read m (other + 1) cs))
    found kind m = ap (option_map (λ ts. tok_of kind (take (1 + m) (c ∷ cs)) ∷ ts)) (next m)

pub toks_anywhere : (bs : List ℕ) (n at other : ℕ) → toks_of (read n at bs) ≡ toks_of (read n other bs)
unfolding read
toks_anywhere [] n at other = refl
toks_anywhere (c ∷ cs) (suc n) at other = toks_anywhere cs n (at + 1) (other + 1)
toks_anywhere (c ∷ cs) zero at other = head_anywhere c cs at other (λ n. toks_anywhere cs n (at + 1) (other + 1))

pub take_front : (xs rest : List ℕ) → take (length xs) (xs ++ rest) ≡ xs
take_front [] rest = refl
take_front (x ∷ xs) rest = ap (λ ys. x ∷ ys) (take_front xs rest)

take_token : (c : ℕ) (xs rest : List ℕ) → take (1 + length xs) (c ∷ (xs ++ rest)) ≡ c ∷ xs
take_token c xs rest =
    let one : 1 + length xs ≡ suc (length xs) = omega arith in
    ap (λ k. take k (c ∷ (xs ++ rest))) one ∙ ap (λ ys. c ∷ ys) (take_front xs rest)

-- a token that stands in front
pub found_read : (kind : TokenKind) (c : ℕ) (xs rest : List ℕ) → head (c ∷ (xs ++ rest)) ≡ string_head kind 0 (Ok (length xs))
    → tokens_of (c ∷ (xs ++ rest)) ≡ option_map (λ ts. tok_of kind (c ∷ xs) ∷ ts) (tokens_of rest)
unfolding read
found_read kind c xs rest e =
    let none : 0 + length xs ≡ length xs = omega arith in
    ap (λ h. toks_of (read_head h 0 (c ∷ (xs ++ rest)) (λ n. read n 1 (xs ++ rest)))) e
    ∙ ap (λ k. option_map (λ ts. tok_of kind (take (1 + k) (c ∷ (xs ++ rest))) ∷ ts) (toks_of (read k 1 (xs ++ rest)))) none
    ∙ (λ i. option_map (λ ts. tok_of kind (take_token c xs rest i) ∷ ts) (toks_of (read_past (length xs) 1 xs rest refl i)))
    ∙ ap (option_map (λ ts. tok_of kind (c ∷ xs) ∷ ts)) (toks_anywhere rest 0 (1 + length xs) 0)

-- ignored bytes in front
pub space_read : (rest : List ℕ) → tokens_of (32 ∷ rest) ≡ tokens_of rest
unfolding read head
space_read rest = toks_anywhere rest 0 1 0

pub comma_read : (rest : List ℕ) → tokens_of (44 ∷ rest) ≡ tokens_of rest
unfolding read head
comma_read rest = toks_anywhere rest 0 1 0

pub spread_read : (rest : List ℕ) → tokens_of (46 ∷ 46 ∷ 46 ∷ rest) ≡ option_map (λ ts. tok.spread ∷ ts) (tokens_of rest)
unfolding head
spread_read rest = found_read Punct 46 (46 ∷ 46 ∷ []) rest refl

-- ---- names

not_ignored : (c : ℕ) → is_name_start c ≡ true → is_ignored c ≡ false
not_ignored c h = grind (arith, nat_tests)

not_mark : (c : ℕ) → is_name_start c ≡ true → eqb c 239 ≡ false
not_mark c h = grind (arith, nat_tests)

not_comment : (c : ℕ) → is_name_start c ≡ true → eqb c 35 ≡ false
not_comment c h = grind (arith, nat_tests)

not_punctuator : (c : ℕ) → is_name_start c ≡ true → is_punctuator c ≡ false
not_punctuator c h = grind (arith, nat_tests)

not_stop : (c : ℕ) → is_name_start c ≡ true → eqb c 46 ≡ false
not_stop c h = grind (arith, nat_tests)

prefix_of : (xs rest : List ℕ) → AllByRecursion (λ x. is_name_byte x ≡ true) xs → prefix_len is_name_byte rest ≡ 0 → prefix_len is_name_byte (xs ++ rest) ≡ length xs
prefix_of [] rest all stop = stop
prefix_of (x ∷ xs) rest all stop =
    ap (λ b. cond b (1 + prefix_len is_name_byte (xs ++ rest)) 0) all.0 ∙ ap (λ n. 1 + n) (prefix_of xs rest all.1 stop) ∙ omega arith

head_name : (c : ℕ) (cs : List ℕ) (n : ℕ) → is_name_start c ≡ true → prefix_len is_name_byte cs ≡ 0 + n → head (c ∷ cs) ≡ string_head Name 0 (Ok n)
unfolding head
head_name c cs n h len =
    let a = not_ignored c h in
    let b = not_mark c h in
    let d = not_comment c h in
    let e = not_punctuator c h in
    let f = not_stop c h in
    rw (a, b, d, e, f, h, len) refl

-- a name, where no byte of a name follows
pub name_read : (c : ℕ) (xs rest : List ℕ) → is_name_start c ≡ true → AllByRecursion (λ x. is_name_byte x ≡ true) xs → prefix_len is_name_byte rest ≡ 0
    → tokens_of (c ∷ (xs ++ rest)) ≡ option_map (λ ts. tok.name (c ∷ xs) ∷ ts) (tokens_of rest)
name_read c xs rest h all stop =
    let len : prefix_len is_name_byte (xs ++ rest) ≡ 0 + length xs = prefix_of xs rest all stop ∙ omega arith in
    found_read Name c xs rest (head_name c (xs ++ rest) (length xs) h len)
