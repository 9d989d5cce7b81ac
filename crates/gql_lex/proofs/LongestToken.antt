-- What is found in front of bytes has the form of its kind, and nothing longer there has the form of a token.
use Rattle.std.proofs.Common.{◌≡◌, ◌<◌, ◌≤◌, ℕ, zero, suc, ◌+◌, ◌-◌, ◌⊎◌, Bool, true, false, cond, eqb, ◌&&◌, List, [], ◌∷◌, ◌++◌, length, get_or, take, drop, Result, Ok, Err, refl, sym, ap, ◌∙◌, subst, arith, lit<, inl, inr, ⊎_elim, true≢false}
use Rattle.std.specs.List.{prefix_len, list_all}
use Rattle.std.proofs.lemmas.Bool.{and_parts, eqb-true}
use Rattle.std.proofs.lemmas.Bool.Decides.{nat_tests}
use Rattle.std.proofs.lemmas.List.{length-append, length-take}
use Rattle.gql_lex.specs.declared.tokens.TokenKind.{TokenKind}
use Rattle.gql_lex.specs.declared.tokens.TokenKind.TheVariants.{Punct, Name, Int, Text, Block}
use Rattle.gql_lex.specs.declared.tokens.Head.TheVariants.{Found}
use Rattle.gql_lex.specs.Characters.{is_ignored, is_mark, is_punctuator, is_spread, is_number_start, is_digit, is_two_quotes}
use Rattle.gql_plain.specs.Names.{is_name_start, is_name_byte}
use Rattle.gql_lex.specs.Heads.{number, string, string_head, head}
use Rattle.gql_lex.specs.Lexemes.{is_whole, is_int, Part, character, escape, unicode, AreParts, parts_then, BlockPart, block_then, AreBlockParts, IsLexeme, LongestToken}
use Rattle.gql_lex.specs.Numbers.{sign_len, digits_len, int_len}
use Rattle.gql_lex.specs.Strings.{text_end, block_end}
use Rattle.gql_lex.proofs.Fronts.{choice, begins, found_len, number_kind, three_bytes}
use Rattle.gql_lex.proofs.StringKinds.{string_text, string_block}
use Rattle.gql_lex.proofs.StringParts.{parts_then-append, text_ends, text_parts, block_then-append, block_ends, block_parts}
use Rattle.gql_lex.proofs.TokenTexts.{number_found}

-- ---- fronts of lists

take_front : (xs rest : List ℕ) → take (length xs) (xs ++ rest) ≡ xs
take_front [] rest = refl
take_front (x ∷ xs) rest = ap (λ ys. x ∷ ys) (take_front xs rest)

pub take_one_more : (n c : ℕ) (cs : List ℕ) → take (n + 1) (c ∷ cs) ≡ c ∷ take n cs
take_one_more n c cs = let e : n + 1 ≡ suc n = omega arith in ap (λ k. take k (c ∷ cs)) e

pub run_passes : (p : ℕ → Bool) (cs : List ℕ) → list_all p (take (prefix_len p cs) cs) ≡ true
run_passes p [] = refl
run_passes p (c ∷ cs) = at (p c) refl (run_passes p cs)
  where
    at : (b : Bool) → p c ≡ b → list_all p (take (prefix_len p cs) cs) ≡ true → list_all p (take (cond b (1 + prefix_len p cs) 0) (c ∷ cs)) ≡ true
    at true e h = let s : 1 + prefix_len p cs ≡ suc (prefix_len p cs) = omega arith in rw (s, e) h
    at false e h = refl

take_length : (k : ℕ) (xs : List ℕ) → take (length (take k xs)) xs ≡ take k xs
take_length zero xs = refl
take_length (suc k) [] = refl
take_length (suc k) (x ∷ xs) = ap (λ ys. x ∷ ys) (take_length k xs)

run_as_long : (p : ℕ → Bool) (xs rest : List ℕ) → list_all p xs ≡ true → length xs ≤ prefix_len p (xs ++ rest)
run_as_long p [] rest all = omega arith
run_as_long p (x ∷ xs) rest all =
    let q = and_parts (p x) (list_all p xs) all in
    rw q.0 (omega (arith, run_as_long p xs rest q.1))

-- ---- what the first byte decides

name_no : (c : ℕ) → is_name_start c ≡ true → (is_ignored c ≡ false) × (eqb c 239 ≡ false) × (eqb c 35 ≡ false) × (is_punctuator c ≡ false) × (eqb c 46 ≡ false)
name_no c h = (grind (arith, nat_tests), grind (arith, nat_tests), grind (arith, nat_tests), grind (arith, nat_tests), grind (arith, nat_tests))

digit_no : (c : ℕ) → is_digit c ≡ true → (is_ignored c ≡ false) × (eqb c 239 ≡ false) × (eqb c 35 ≡ false) × (is_punctuator c ≡ false) × (eqb c 46 ≡ false) × (is_name_start c ≡ false) × (eqb c 45 ≡ false)
digit_no c h = (grind (arith, nat_tests), grind (arith, nat_tests), grind (arith, nat_tests), grind (arith, nat_tests), grind (arith, nat_tests), grind (arith, nat_tests), grind (arith, nat_tests))

head_name : (c : ℕ) (cs : List ℕ) → is_name_start c ≡ true → head (c ∷ cs) ≡ Found Name (prefix_len is_name_byte cs)
unfolding head
head_name c cs h = let n = name_no c h in rw (n.0, n.1, n.2, n.3, n.4, h) refl

head_digit : (c : ℕ) (cs : List ℕ) → is_digit c ≡ true → head (c ∷ cs) ≡ number (c ∷ cs)
unfolding head
head_digit c cs h = let n = digit_no c h in rw (n.0, n.1, n.2, n.3, n.4, n.5, n.6, h) refl

head_minus : (cs : List ℕ) → head (45 ∷ cs) ≡ number (45 ∷ cs)
unfolding head
head_minus cs = refl

head_quote : (cs : List ℕ) → head (34 ∷ cs) ≡ string cs
unfolding head
head_quote cs = refl

head_spread : (rest : List ℕ) → head (46 ∷ 46 ∷ 46 ∷ rest) ≡ Found Punct 2
unfolding head
head_spread rest = refl

-- ---- each kind, by what is found

punct_form : (bs : List ℕ) (n : ℕ) → head bs ≡ Found Punct n → IsLexeme Punct (take (n + 1) bs)
punct_form bs n e = ⊎_elim (λ w. one bs w.0 w.1) (λ w. three w.0 w.1) (begins bs Punct n e)
  where
    one : (xs : List ℕ) → is_punctuator (get_or xs 0 0) ≡ true → 0 ≡ n → IsLexeme Punct (take (n + 1) xs)
    one [] p z = absurd (true≢false (sym p))
    one (c ∷ cs) p z = subst (λ k. IsLexeme Punct (take (k + 1) (c ∷ cs))) z (inl (c, refl, p))

    three : is_spread bs ≡ true → 2 ≡ n → IsLexeme Punct (take (n + 1) bs)
    three s z =
        let q = three_bytes 46 46 46 bs (lit< tt) s in
        subst (λ k. IsLexeme Punct (take (k + 1) bs)) z (inr (ap (take 3) q.1))

name_form : (bs : List ℕ) (n : ℕ) → head bs ≡ Found Name n → IsLexeme Name (take (n + 1) bs)
name_form [] n e = absurd (true≢false (sym (begins [] Name n e).0))
name_form (c ∷ cs) n e =
    let p = begins (c ∷ cs) Name n e in
    let all : list_all is_name_byte (take n cs) ≡ true = subst (λ k. list_all is_name_byte (take k cs) ≡ true) p.1 (run_passes is_name_byte cs) in
    rw (take_one_more n c cs, p.0) all

-- ---- whole numbers

whole_form : (cs : List ℕ) → ¬ (digits_len cs ≡ 0) → is_whole (take (digits_len cs) cs) ≡ true
whole_form [] z = absurd (z refl)
whole_form (c ∷ cs) z = at (eqb c 48) refl z
  where
    run : (b : Bool) → is_digit c ≡ b → eqb c 48 ≡ false → ¬ (cond b (1 + prefix_len is_digit cs) 0 ≡ 0) → is_whole (take (cond b (1 + prefix_len is_digit cs) 0) (c ∷ cs)) ≡ true
    run true d e y = let s : 1 + prefix_len is_digit cs ≡ suc (prefix_len is_digit cs) = omega arith in rw (s, e, d) (run_passes is_digit cs)
    run false d e y = absurd (y refl)

    at : (b : Bool) → eqb c 48 ≡ b → ¬ (cond b 1 (prefix_len is_digit (c ∷ cs)) ≡ 0) → is_whole (take (cond b 1 (prefix_len is_digit (c ∷ cs))) (c ∷ cs)) ≡ true
    at true e y = rw e refl
    at false e y = run (is_digit c) refl e y

int_form_of : (bs : List ℕ) → ¬ (digits_len (drop (sign_len bs) bs) ≡ 0) → is_int (take (int_len bs) bs) ≡ true
int_form_of [] z = absurd (z refl)
int_form_of (c ∷ cs) z = at (eqb c 45) refl z
  where
    front : (k : ℕ) → eqb c 45 ≡ false → ¬ (k ≡ 0) → is_whole (take k (c ∷ cs)) ≡ true → is_int (take k (c ∷ cs)) ≡ true
    front zero e y w = absurd (y refl)
    front (suc k) e y w = rw e w

    at : (b : Bool) → eqb c 45 ≡ b → ¬ (digits_len (drop (cond b 1 0) (c ∷ cs)) ≡ 0) → is_int (take (cond b 1 0 + digits_len (drop (cond b 1 0) (c ∷ cs))) (c ∷ cs)) ≡ true
    at true e y = let s : 1 + digits_len cs ≡ suc (digits_len cs) = omega arith in rw (s, e) (whole_form cs y)
    at false e y =
        let s : 0 + digits_len (c ∷ cs) ≡ digits_len (c ∷ cs) = omega arith in
        rw s (front (digits_len (c ∷ cs)) e y (whole_form (c ∷ cs) y))

int_form : (bs : List ℕ) (n : ℕ) → head bs ≡ Found Int n → IsLexeme Int (take (n + 1) bs)
int_form bs n e =
    let f = number_found bs n (begins bs Int n e) in
    let w = int_form_of bs f.0 in
    let same : take (n + 1) bs ≡ take (int_len bs) bs = taken (int_len bs) f.1.0 (some (int_len bs) (omega (arith, f.0)) w) in
    rw same w
  where
    some : (k : ℕ) → 0 < k → is_int (take k bs) ≡ true → 0 < length (take k bs)
    some k p w = more (take k bs) w
      where
        more : (xs : List ℕ) → is_int xs ≡ true → 0 < length xs
        more [] v = absurd (true≢false (sym v))
        more (x ∷ xs) v = omega arith

    taken : (k : ℕ) → length (take k bs) - 1 ≡ n → 0 < length (take k bs) → take (n + 1) bs ≡ take k bs
    taken k l p =
        let same : n + 1 ≡ length (take k bs) = omega (arith, l, p) in
        ap (λ m. take m bs) same ∙ take_length k bs

-- ---- strings

text_form : (bs : List ℕ) (n : ℕ) → head bs ≡ Found Text n → IsLexeme Text (take (n + 1) bs)
text_form [] n e = absurd (let z : 0 ≡ 34 = (begins [] Text n e).0 in omega (arith, z))
text_form (c ∷ cs) n e =
    let p = begins (c ∷ cs) Text n e in
    let q = text_parts cs n (string_text cs n p.1).1 in
    let front : take n cs ≡ parts_then q.0 [] = (λ i. take (q.2.2 i) ((q.2.1 ∙ parts_then-append q.0 q.2.0) i)) ∙ take_front (parts_then q.0 []) q.2.0 in
    (q.0, q.1, take_one_more n c cs ∙ (λ i. p.0 i ∷ front i))

block_rest : (cs : List ℕ) → is_two_quotes cs ≡ true → (ds : List ℕ) × (cs ≡ 34 ∷ 34 ∷ ds)
block_rest [] e = absurd (true≢false (sym e))
block_rest (a ∷ []) e = absurd (true≢false (sym (and_parts (eqb a 34) (eqb 0 34) e).1))
block_rest (a ∷ b ∷ ds) e = let p = and_parts (eqb a 34) (eqb b 34) e in (ds, λ i. eqb-true a 34 p.0 i ∷ eqb-true b 34 p.1 i ∷ ds)

block_form : (bs : List ℕ) (n : ℕ) → head bs ≡ Found Block n → IsLexeme Block (take (n + 1) bs)
block_form [] n e = absurd (let z : 0 ≡ 34 = (begins [] Block n e).0 in omega (arith, z))
block_form (c ∷ cs) n e =
    let p = begins (c ∷ cs) Block n e in
    let s = string_block cs n p.1 in
    let r = block_rest cs s.0 in
    let at : block_end 0 r.0 ≡ Ok s.1.0 = subst (λ xs. block_end 0 (drop 2 xs) ≡ Ok s.1.0) r.1 s.1.1 in
    let q = block_parts r.0 s.1.0 at in
    let front : take s.1.0 r.0 ≡ block_then q.0 [] = (λ i. take (q.2.2 i) ((q.2.1 ∙ block_then-append q.0 q.2.0) i)) ∙ take_front (block_then q.0 []) q.2.0 in
    let three : n + 1 ≡ suc (suc (suc s.1.0)) = omega (arith, s.1.2) in
    (q.0, q.1, (λ i. take (three i) (p.0 i ∷ r.1 i)) ∙ ap (λ xs. 34 ∷ 34 ∷ 34 ∷ xs) front)

form : (bs : List ℕ) (kind : TokenKind) (n : ℕ) → head bs ≡ Found kind n → IsLexeme kind (take (n + 1) bs)
form bs Punct n e = punct_form bs n e
form bs Name n e = name_form bs n e
form bs Int n e = int_form bs n e
form bs Text n e = text_form bs n e
form bs Block n e = block_form bs n e

-- ---- nothing longer

punct_longest : (text rest : List ℕ) (kind : TokenKind) (n : ℕ) → IsLexeme Punct text → head (text ++ rest) ≡ Found kind n → length text ≤ n + 1
punct_longest text rest kind n (inl w) e = let l : length text ≡ 1 = ap length w.1 in omega (arith, l)
punct_longest text rest kind n (inr w) e =
    let l : length text ≡ 3 = ap length w in
    let m : 2 ≡ n = found_len Punct kind 2 n (sym (head_spread rest) ∙ (subst (λ xs. head (xs ++ rest) ≡ Found kind n) w e)) in
    omega (arith, l, m)

name_longest : (text rest : List ℕ) (kind : TokenKind) (n : ℕ) → IsLexeme Name text → head (text ++ rest) ≡ Found kind n → length text ≤ n + 1
name_longest [] rest kind n is e = omega arith
name_longest (c ∷ cs) rest kind n is e =
    let p = and_parts (is_name_start c) (list_all is_name_byte cs) is in
    let m : prefix_len is_name_byte (cs ++ rest) ≡ n = found_len Name kind _ n (sym (head_name c (cs ++ rest) p.0) ∙ e) in
    omega (arith, m, run_as_long is_name_byte cs rest p.1)

whole_first : (c : ℕ) (cs : List ℕ) → is_whole (c ∷ cs) ≡ true → is_digit c ≡ true
whole_first c cs w = at (eqb c 48) refl w
  where
    at : (b : Bool) → eqb c 48 ≡ b → cond b (eqb (length cs) 0) (is_digit c && list_all is_digit cs) ≡ true → is_digit c ≡ true
    at true e v = let z = eqb-true c 48 e in rw z refl
    at false e v = (and_parts (is_digit c) (list_all is_digit cs) v).0

whole_longest : (cs rest : List ℕ) → is_whole cs ≡ true → length cs ≤ digits_len (cs ++ rest)
whole_longest [] rest w = omega arith
whole_longest (c ∷ cs) rest w = at (eqb c 48) refl w
  where
    at : (b : Bool) → eqb c 48 ≡ b → cond b (eqb (length cs) 0) (is_digit c && list_all is_digit cs) ≡ true → length (c ∷ cs) ≤ cond b 1 (prefix_len is_digit (c ∷ (cs ++ rest)))
    at true e v = let z : length cs ≡ 0 = eqb-true (length cs) 0 v in omega (arith, z)
    at false e v = run_as_long is_digit (c ∷ cs) rest v

number_len : (bs : List ℕ) (kind : TokenKind) (n k : ℕ) → number bs ≡ Found kind n → k ≤ int_len bs → k ≤ length bs → 0 < k → k ≤ n + 1
number_len bs kind n k e i l z =
    let int : Int ≡ kind = number_kind bs kind n e in
    let f = number_found bs n (subst (λ x. number bs ≡ Found x n) (sym int) e) in
    omega (arith, f.1.0, length-take (int_len bs) bs)

int_longest : (text rest : List ℕ) (kind : TokenKind) (n : ℕ) → IsLexeme Int text → head (text ++ rest) ≡ Found kind n → length text ≤ n + 1
int_longest [] rest kind n is e = omega arith
int_longest (c ∷ cs) rest kind n is e = at (eqb c 45) refl is
  where
    len : length (c ∷ cs) ≤ length (c ∷ (cs ++ rest))
    len = omega (arith, length-append cs rest)

    at : (b : Bool) → eqb c 45 ≡ b → cond b (is_whole cs) (is_whole (c ∷ cs)) ≡ true → length (c ∷ cs) ≤ n + 1
    at true m w =
        let z = eqb-true c 45 m in
        let f : number (c ∷ (cs ++ rest)) ≡ Found kind n = subst (λ x. number (x ∷ (cs ++ rest)) ≡ Found kind n) (sym z) (sym (head_minus (cs ++ rest)) ∙ subst (λ x. head (x ∷ (cs ++ rest)) ≡ Found kind n) z e) in
        let i : int_len (c ∷ (cs ++ rest)) ≡ 1 + digits_len (cs ++ rest) = ap (λ b. cond b 1 0 + digits_len (drop (cond b 1 0) (c ∷ (cs ++ rest)))) m in
        number_len (c ∷ (cs ++ rest)) kind n (length (c ∷ cs)) f (omega (arith, i, whole_longest cs rest w)) len (omega arith)
    at false m w =
        let d = whole_first c cs w in
        let f : number (c ∷ (cs ++ rest)) ≡ Found kind n = sym (head_digit c (cs ++ rest) d) ∙ e in
        let i : int_len (c ∷ (cs ++ rest)) ≡ 0 + digits_len (c ∷ (cs ++ rest)) = ap (λ b. cond b 1 0 + digits_len (drop (cond b 1 0) (c ∷ (cs ++ rest)))) m in
        number_len (c ∷ (cs ++ rest)) kind n (length (c ∷ cs)) f (omega (arith, i, whole_longest (c ∷ cs) rest w)) len (omega arith)

more_than_one : (r : Result ℕ ℕ) (kind : TokenKind) (n : ℕ) → string_head Block 2 r ≡ Found kind n → 2 ≤ n
more_than_one (Ok m) kind n e = let q : 2 + m ≡ n = cc in omega (arith, q)
more_than_one (Err code) kind n e = cc

two_alone : (ps : List Part) (rest : List ℕ) → AreParts ps → is_two_quotes (parts_then ps rest) ≡ true → length (parts_then ps []) ≡ 1
two_alone [] rest all t = refl
two_alone (character c ∷ ps) rest all t = absurd (all.0.1 (eqb-true c 34 (and_parts (eqb c 34) _ t).0))
two_alone (escape c ∷ ps) rest all t = absurd (true≢false (sym t))
two_alone (unicode a b c d ∷ ps) rest all t = absurd (true≢false (sym t))

text_longest_of : (ps : List Part) (rest : List ℕ) (kind : TokenKind) (n : ℕ) → AreParts ps → string (parts_then ps rest) ≡ Found kind n → length (parts_then ps []) ≤ n
unfolding string
text_longest_of ps rest kind n all e =
    ⊎_elim
    (λ w. omega (arith, two_alone ps rest all w.0, more_than_one (block_end 0 (drop 2 (parts_then ps rest))) kind n w.1))
    (λ w.
    let f : string_head Text 0 (Ok (length (parts_then ps []))) ≡ Found kind n = subst (λ r. string_head Text 0 r ≡ Found kind n) (text_ends ps rest all) w.1 in
    let m : 0 + length (parts_then ps []) ≡ n = found_len Text kind _ n f in
    omega (arith, m))
    (choice (is_two_quotes (parts_then ps rest)) _ _ _ e)

text_longest : (text rest : List ℕ) (kind : TokenKind) (n : ℕ) → IsLexeme Text text → head (text ++ rest) ≡ Found kind n → length text ≤ n + 1
text_longest text rest kind n is e =
    let l : length text ≡ suc (length (parts_then is.0 [])) = ap length is.2 in
    let f : head (34 ∷ (parts_then is.0 [] ++ rest)) ≡ Found kind n = subst (λ xs. head (xs ++ rest) ≡ Found kind n) is.2 e in
    let g : string (parts_then is.0 rest) ≡ Found kind n = ap string (parts_then-append is.0 rest) ∙ sym (head_quote (parts_then is.0 [] ++ rest)) ∙ f in
    omega (arith, l, text_longest_of is.0 rest kind n is.1 g)

block_longest_of : (ps : List BlockPart) (rest : List ℕ) (kind : TokenKind) (n : ℕ) → AreBlockParts ps → string (34 ∷ 34 ∷ block_then ps rest) ≡ Found kind n → 2 + length (block_then ps []) ≡ n
unfolding string
block_longest_of ps rest kind n all e =
    found_len Block kind (2 + length (block_then ps [])) n (subst (λ r. string_head Block 2 r ≡ Found kind n) (block_ends ps rest all) e)

block_longest : (text rest : List ℕ) (kind : TokenKind) (n : ℕ) → IsLexeme Block text → head (text ++ rest) ≡ Found kind n → length text ≤ n + 1
block_longest text rest kind n is e =
    let l : length text ≡ suc (suc (suc (length (block_then is.0 [])))) = ap length is.2 in
    let f : head (34 ∷ 34 ∷ 34 ∷ (block_then is.0 [] ++ rest)) ≡ Found kind n = subst (λ xs. head (xs ++ rest) ≡ Found kind n) is.2 e in
    let g : string (34 ∷ 34 ∷ block_then is.0 rest) ≡ Found kind n = ap (λ xs. string (34 ∷ 34 ∷ xs)) (block_then-append is.0 rest) ∙ sym (head_quote (34 ∷ 34 ∷ (block_then is.0 [] ++ rest))) ∙ f in
    omega (arith, l, block_longest_of is.0 rest kind n is.1 g)

longest : (other : TokenKind) (text rest : List ℕ) (kind : TokenKind) (n : ℕ) → IsLexeme other text → head (text ++ rest) ≡ Found kind n → length text ≤ n + 1
longest Punct text rest kind n is e = punct_longest text rest kind n is e
longest Name text rest kind n is e = name_longest text rest kind n is e
longest Int text rest kind n is e = int_longest text rest kind n is e
longest Text text rest kind n is e = text_longest text rest kind n is e
longest Block text rest kind n is e = block_longest text rest kind n is e

pub longest_token : LongestToken
longest_token bs kind n e =
    (form bs kind n e, λ other text rest same is. longest other text rest kind n is (subst (λ xs. head xs ≡ Found kind n) same e))
