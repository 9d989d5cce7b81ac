-- A token's text is read alone as the same token.
use Rattle.std.proofs.Common.{◌≡◌, ℕ, zero, suc, ◌+◌, ◌-◌, ◌<◌, ◌≤◌, min, Bool, true, false, cond, eqb, ◌&&◌, List, [], ◌∷◌, length, get_or, take, drop, Result, Ok, Err, IfOk, lit<, refl, arith, sym, ap, ◌∙◌, ⊎_elim}
use Rattle.std.specs.List.{prefix_len}
use Rattle.std.proofs.lemmas.Bool.{and_parts, and_from, eqb-true, ne_eqb, eqb-false, false_from_ne_true, cases_eq}
use Rattle.std.proofs.lemmas.List.{get_or-take, get_or-drop, drop-take, take_all, drop_all, length-take, take_min}
use Rattle.gql_lex.specs.declared.tokens.TokenKind.TheVariants.{Punct, Name, Int, Text, Block}
use Rattle.gql_lex.specs.declared.tokens.TokenKind.{TokenKind}
use Rattle.gql_lex.specs.declared.tokens.Head.TheVariants.{Ignored, Found, Wrong}
use Rattle.gql_lex.specs.Characters.{is_digit, is_punctuator, is_spread, is_mark, is_ignored, is_number_start, is_float_mark, is_two_quotes, may_stand, may_stand_in_block, is_three_quotes, is_escaped_quotes}
use Rattle.gql_plain.specs.Names.{is_name_start, is_name_byte}
use Rattle.gql_lex.specs.Numbers.{sign_len, digits_len, int_len, is_in_i64}
use Rattle.gql_lex.specs.Strings.{further, and_then, escape_len, text_end, block_end, is_four_hex, code_of_hex, is_simple_escape}
use Rattle.gql_lex.specs.Heads.{comment, int_before, number, string, string_head, head, IsToken}
use Rattle.gql_lex.proofs.Extents.{stands_within, text_end-closes, block_end-closes, Closes, digits_some}
use Rattle.gql_lex.proofs.Skips.{text_end-skip, block_end-skip}
use Rattle.gql_lex.proofs.Fronts.{choice, no_comment, wrong_found, ignored_found}
use Rattle.gql_lex.proofs.Texts.{further_one, takes, not_unicode, is_simple, ok_from, unicode_is}

-- ---- the same tests

pub step_same : {A : Type 0} (b : Bool) (x x' y y' z : A) → (x ≡ z → x' ≡ z) → (y ≡ z → y' ≡ z) → cond b x y ≡ z → cond b x' y' ≡ z
step_same true x x' y y' z h k e = h e
step_same false x x' y y' z h k e = k e

pub step_kept : {A : Type 0} (b b' : Bool) (x x' y y' z : A) → (b ≡ true → x ≡ z → (b' ≡ true) × (x' ≡ z)) → (b ≡ false → b' ≡ false) → (y ≡ z → y' ≡ z)
    → cond b x y ≡ z → cond b' x' y' ≡ z
step_kept true b' x x' y y' z h f k e = let p = h refl e in rw p.0 p.1
step_kept false b' x x' y y' z h f k e = let p = f refl in rw p (k e)

-- a byte of a shorter text is one of the longer
same_byte : (bs : List ℕ) (n i k : ℕ) → 0 < k → eqb (get_or (take n bs) i 0) k ≡ true → eqb (get_or bs i 0) k ≡ true
same_byte bs n i k p e =
    let q = eqb-true (get_or (take n bs) i 0) k e in
    let w = stands_within (take n bs) i (omega arith) in
    let l : i < n = omega (arith, w, length-take n bs) in
    rw (get_or-take n bs i 0 l) at e

three_of : (a b c : Bool) → a ≡ true → b ≡ true → c ≡ true → (a && b && c) ≡ true
three_of a b c p q r = and_from (a && b) c (and_from a b p q) r

pub three_shorter : (bs : List ℕ) (n i j k : ℕ) → 0 < i → 0 < j → 0 < k → (eqb (get_or bs 0 0) i && eqb (get_or bs 1 0) j && eqb (get_or bs 2 0) k) ≡ false
    → (eqb (get_or (take n bs) 0 0) i && eqb (get_or (take n bs) 1 0) j && eqb (get_or (take n bs) 2 0) k) ≡ false
three_shorter bs n i j k p q r e = false_from_ne_true _ (λ t.
    let u = and_parts (eqb (get_or (take n bs) 0 0) i && eqb (get_or (take n bs) 1 0) j) (eqb (get_or (take n bs) 2 0) k) t in
    let v = and_parts (eqb (get_or (take n bs) 0 0) i) (eqb (get_or (take n bs) 1 0) j) u.0 in
    let w = three_of _ _ _ (same_byte bs n 0 i p v.0) (same_byte bs n 1 j q v.1) (same_byte bs n 2 k r u.1) in
    let x : false ≡ true = sym e ∙ w in
    cc)

quotes_kept : (bs : List ℕ) (n : ℕ) → 3 ≤ n → is_three_quotes (take n bs) ≡ is_three_quotes bs
quotes_kept bs n l =
    let a = get_or-take n bs 0 0 (omega arith) in
    let b = get_or-take n bs 1 0 (omega arith) in
    let c = get_or-take n bs 2 0 (omega arith) in
    rw (a, b, c) refl

quotes_shorter : (bs : List ℕ) (n : ℕ) → is_three_quotes bs ≡ false → is_three_quotes (take n bs) ≡ false
quotes_shorter bs n e = three_shorter bs n 34 34 34 (lit< tt) (lit< tt) (lit< tt) e

longer : (bs : List ℕ) (n : ℕ) → is_three_quotes (take n bs) ≡ true → is_three_quotes bs ≡ true
longer bs n t =
    let u = and_parts (eqb (get_or (take n bs) 0 0) 34 && eqb (get_or (take n bs) 1 0) 34) (eqb (get_or (take n bs) 2 0) 34) t in
    let v = and_parts (eqb (get_or (take n bs) 0 0) 34) (eqb (get_or (take n bs) 1 0) 34) u.0 in
    three_of _ _ _ (same_byte bs n 0 34 (lit< tt) v.0) (same_byte bs n 1 34 (lit< tt) v.1) (same_byte bs n 2 34 (lit< tt) u.1)

-- ---- strings

further_ok : (r : Result ℕ ℕ) (m : ℕ) → further 1 r ≡ Ok m → (j : ℕ) × (r ≡ Ok j) × (m ≡ suc j)
further_ok (Ok j) m e =
    let p : 1 + j ≡ m = cc in
    (j, refl, omega arith)
further_ok (Err code) m e = (0, cc, cc)

on_more : (r r' : Result ℕ ℕ) (j : ℕ) → (r ≡ Ok j → r' ≡ Ok j) → further 1 r ≡ Ok (suc j) → further 1 r' ≡ Ok (suc j)
on_more r r' j h e =
    let f = h (further_one r j e) in
    let o : 1 + j ≡ suc j = omega arith in
    rw (f, o) refl

hex_kept : (es : List ℕ) (j : ℕ) → 5 ≤ j → (is_four_hex (drop 1 (take j es)) ≡ is_four_hex (drop 1 es)) × (code_of_hex (drop 1 (take j es)) ≡ code_of_hex (drop 1 es))
hex_kept es j l =
    let a = get_or-drop 1 (take j es) 0 0 ∙ get_or-take j es 1 0 (omega arith) ∙ sym (get_or-drop 1 es 0 0) in
    let b = get_or-drop 1 (take j es) 1 0 ∙ get_or-take j es 2 0 (omega arith) ∙ sym (get_or-drop 1 es 1 0) in
    let c = get_or-drop 1 (take j es) 2 0 ∙ get_or-take j es 3 0 (omega arith) ∙ sym (get_or-drop 1 es 2 0) in
    let d = get_or-drop 1 (take j es) 3 0 ∙ get_or-take j es 4 0 (omega arith) ∙ sym (get_or-drop 1 es 3 0) in
    (rw (a, b, c, d) refl, rw (a, b, c, d) refl)

escape_kept : (es : List ℕ) (j : ℕ) → 5 ≤ j → escape_len (take j es) ≡ escape_len es
unfolding escape_len
escape_kept es j l =
    let a = get_or-take j es 0 0 (omega arith) in
    let h = hex_kept es j l in
    rw (a, h.0, h.1) refl

simple_kept : (es : List ℕ) (j : ℕ) → 1 ≤ j → ¬ (get_or es 0 0 ≡ 117) → escape_len (take j es) ≡ escape_len es
simple_kept es j l n =
    let a = get_or-take j es 0 0 (omega arith) in
    let m : ¬ (get_or (take j es) 0 0 ≡ 117) = λ q. n (sym a ∙ q) in
    not_unicode (take j es) m ∙ ap (λ c. cond (is_simple_escape c) (Ok 1) (Err 4)) a ∙ sym (not_unicode es n)

unicode_long : (es : List ℕ) (i : ℕ) → get_or es 0 0 ≡ 117 → escape_len es ≡ Ok i → i ≡ 5
unicode_long es i u e = let f = unicode_is es (ok_from (escape_len es) i e) u in cc

simple_short : (es : List ℕ) (i : ℕ) → ¬ (get_or es 0 0 ≡ 117) → escape_len es ≡ Ok i → i ≡ 1
simple_short es i n e =
    let s = not_unicode es n in
    let t = is_simple (is_simple_escape (get_or es 0 0)) (rw s at (ok_from (escape_len es) i e)) in
    let f : escape_len es ≡ Ok 1 = rw t at s in
    cc

pub escape_local : (es : List ℕ) (i j : ℕ) → escape_len es ≡ Ok i → i ≤ j → escape_len (take j es) ≡ Ok i
escape_local es i j e l = ⊎_elim
    (λ u. escape_kept es j (omega (arith, unicode_long es i u e)) ∙ e)
    (λ n. simple_kept es j (omega (arith, simple_short es i n e)) n ∙ e)
    (cases_eq (get_or es 0 0) 117)

the_none : (i code j : ℕ) → ¬ (further i (Err code) ≡ Ok j)
the_none i code j e = cc

skips : (i j : ℕ) (r : Result ℕ ℕ) → further i r ≡ Ok j → i ≤ j
skips i j (Ok k) e = let p : i + k ≡ j = cc in omega arith
skips i j (Err code) e = absurd (the_none i code j e)

no_quote : (bs : List ℕ) (r : Result ℕ ℕ) → IfOk r (Closes bs) → ¬ (r ≡ Ok 0)
no_quote bs (Ok zero) c e = omega (arith, c.1 0)
no_quote bs (Ok (suc n)) c e = cc
no_quote bs (Err code) c e = cc

escape_on : (cs : List ℕ) (j : ℕ) → ((i : ℕ) → text_end i cs ≡ Ok j → text_end i (take j cs) ≡ Ok j)
    → and_then (escape_len cs) (λ n. further 1 (text_end n cs)) ≡ Ok (suc j) → and_then (escape_len (take j cs)) (λ n. further 1 (text_end n (take j cs))) ≡ Ok (suc j)
escape_on cs j h e =
    let t = takes (escape_len cs) (λ n. further 1 (text_end n cs)) (suc j) e in
    let f = further_one (text_end t.0 cs) j t.2 in
    let l = skips t.0 j (text_end 0 (drop t.0 cs)) (sym (text_end-skip t.0 cs) ∙ f) in
    let x = escape_local cs t.0 j t.1 l in
    rw x (on_more (text_end t.0 cs) (text_end t.0 (take j cs)) j (h t.0) t.2)

pub text_local : (k : ℕ) (bs : List ℕ) (m : ℕ) → text_end k bs ≡ Ok m → text_end k (take m bs) ≡ Ok m
unfolding text_end
text_local k [] m e = cc
text_local k (c ∷ cs) zero e = absurd (no_quote (c ∷ cs) (text_end k (c ∷ cs)) (text_end-closes k (c ∷ cs)) e)
text_local (suc k) (c ∷ cs) (suc j) e = on_more (text_end k cs) (text_end k (take j cs)) j (text_local k cs j) e
text_local zero (c ∷ cs) (suc j) e =
    step_same (eqb c 34) (Ok 1) (Ok 1) _ _ (Ok (suc j)) (λ x. x)
    (step_same (eqb c 92) _ _ _ _ (Ok (suc j)) (escape_on cs j (λ i. text_local i cs j))
    (step_same (may_stand c) _ _ (Err 4) (Err 4) (Ok (suc j)) (on_more (text_end 0 cs) (text_end 0 (take j cs)) j (text_local 0 cs j)) (λ x. x))) e

block_on : (cs : List ℕ) (j : ℕ) → (block_end 3 cs ≡ Ok j → block_end 3 (take j cs) ≡ Ok j) → (c : ℕ) → is_escaped_quotes (c ∷ cs) ≡ true → further 1 (block_end 3 cs) ≡ Ok (suc j)
    → (is_escaped_quotes (c ∷ take j cs) ≡ true) × (further 1 (block_end 3 (take j cs)) ≡ Ok (suc j))
block_on cs j h c s e =
    let f = further_one (block_end 3 cs) j e in
    let l = skips 3 j (block_end 0 (drop 3 cs)) (sym (block_end-skip 3 cs) ∙ f) in
    let p = and_parts (eqb c 92) (is_three_quotes cs) s in
    (and_from (eqb c 92) (is_three_quotes (take j cs)) p.0 (quotes_kept cs j l ∙ p.1), on_more (block_end 3 cs) (block_end 3 (take j cs)) j h e)

escaped_shorter : (c : ℕ) (cs : List ℕ) (j : ℕ) → is_escaped_quotes (c ∷ cs) ≡ false → is_escaped_quotes (c ∷ take j cs) ≡ false
escaped_shorter c cs j e = false_from_ne_true _ (λ t.
    let p = and_parts (eqb c 92) (is_three_quotes (take j cs)) t in
    let q : is_three_quotes cs ≡ true = longer cs j p.1 in
    let x : false ≡ true = sym e ∙ and_from (eqb c 92) (is_three_quotes cs) p.0 q in
    cc)

abbrev three_bytes : Result ℕ ℕ
three_bytes = Ok 3

quotes_at_end : (c : ℕ) (cs : List ℕ) (j : ℕ) → is_three_quotes (c ∷ cs) ≡ true → three_bytes ≡ Ok (suc j) → is_three_quotes (c ∷ take j cs) ≡ true
quotes_at_end c cs j t e =
    let p : 3 ≡ suc j = cc in
    quotes_kept (c ∷ cs) (suc j) (omega arith) ∙ t

pub block_local : (k : ℕ) (bs : List ℕ) (m : ℕ) → block_end k bs ≡ Ok m → block_end k (take m bs) ≡ Ok m
unfolding block_end
block_local k [] m e = cc
block_local k (c ∷ cs) zero e = absurd (no_quote (c ∷ cs) (block_end k (c ∷ cs)) (block_end-closes k (c ∷ cs)) e)
block_local (suc k) (c ∷ cs) (suc j) e = on_more (block_end k cs) (block_end k (take j cs)) j (block_local k cs j) e
block_local zero (c ∷ cs) (suc j) e =
    step_kept (is_three_quotes (c ∷ cs)) (is_three_quotes (c ∷ take j cs)) (Ok 3) (Ok 3) _ _ (Ok (suc j)) (λ t x. (quotes_at_end c cs j t x, x)) (λ f. quotes_shorter (c ∷ cs) (suc j) f)
    (step_kept (is_escaped_quotes (c ∷ cs)) (is_escaped_quotes (c ∷ take j cs)) _ _ _ _ (Ok (suc j)) (λ t x. block_on cs j (block_local 3 cs j) c t x) (λ f. escaped_shorter c cs j f)
    (step_same (may_stand_in_block c) _ _ (Err 4) (Err 4) (Ok (suc j)) (on_more (block_end 0 cs) (block_end 0 (take j cs)) j (block_local 0 cs j)) (λ x. x))) e

head_ok : (kind : TokenKind) (more : ℕ) (r : Result ℕ ℕ) (k : TokenKind) (n : ℕ) → string_head kind more r ≡ Found k n → (m : ℕ) × (r ≡ Ok m) × (more + m ≡ n) × (kind ≡ k)
head_ok kind more (Ok m) k n e = (m, refl, cc, cc)
head_ok kind more (Err code) k n e = (0, cc, cc, cc)

text_kept : (cs : List ℕ) (k : TokenKind) (n : ℕ) → string_head Text 0 (text_end 0 cs) ≡ Found k n → string_head Text 0 (text_end 0 (take n cs)) ≡ Found k n
text_kept cs k n e =
    let h = head_ok Text 0 (text_end 0 cs) k n e in
    let m : h.0 ≡ n = omega (arith, h.2) in
    let o : 0 + n ≡ n = omega arith in
    let t : text_end 0 cs ≡ Ok n = rw m at h.1 in
    rw (text_local 0 cs n t, o, h.3) refl

two_kept : (cs : List ℕ) (n : ℕ) → 2 ≤ n → is_two_quotes (take n cs) ≡ is_two_quotes cs
two_kept cs n l =
    let a = get_or-take n cs 0 0 (omega arith) in
    let b = get_or-take n cs 1 0 (omega arith) in
    rw (a, b) refl

two_shorter : (cs : List ℕ) (n : ℕ) → is_two_quotes cs ≡ false → is_two_quotes (take n cs) ≡ false
two_shorter cs n e = false_from_ne_true _ (λ t.
    let p = and_parts (eqb (get_or (take n cs) 0 0) 34) (eqb (get_or (take n cs) 1 0) 34) t in
    let w = and_from _ _ (same_byte cs n 0 34 (lit< tt) p.0) (same_byte cs n 1 34 (lit< tt) p.1) in
    let x : false ≡ true = sym e ∙ w in
    cc)

block_from : (cs : List ℕ) (k : TokenKind) (n m : ℕ) → is_two_quotes cs ≡ true → block_end 0 (drop 2 cs) ≡ Ok m → 2 + m ≡ n → Block ≡ k
    → (is_two_quotes (take n cs) ≡ true) × (string_head Block 2 (block_end 0 (drop 2 (take n cs))) ≡ Found k n)
block_from cs k n m t e p q =
    let b = block_local 0 (drop 2 cs) m e in
    let d : drop 2 (take n cs) ≡ take m (drop 2 cs) = ap (λ x. drop 2 (take x cs)) (sym p) ∙ drop-take 2 m cs in
    (two_kept cs n (omega arith) ∙ t, rw (d, b, p, q) refl)

block_kept : (cs : List ℕ) (k : TokenKind) (n : ℕ) → is_two_quotes cs ≡ true → string_head Block 2 (block_end 0 (drop 2 cs)) ≡ Found k n
    → (is_two_quotes (take n cs) ≡ true) × (string_head Block 2 (block_end 0 (drop 2 (take n cs))) ≡ Found k n)
block_kept cs k n t e = let h = head_ok Block 2 (block_end 0 (drop 2 cs)) k n e in block_from cs k n h.0 t h.1 h.2 h.3

string_kept : (cs : List ℕ) (k : TokenKind) (n : ℕ) → string cs ≡ Found k n → string (take n cs) ≡ Found k n
unfolding string
string_kept cs k n e =
    step_kept (is_two_quotes cs) (is_two_quotes (take n cs)) _ _ _ _ (Found k n) (λ t x. block_kept cs k n t x) (λ f. two_shorter cs n f) (text_kept cs k n) e

-- ---- names and numbers

run_by : (p : ℕ → Bool) (c : ℕ) (cs : List ℕ) (b : Bool) → p c ≡ b → prefix_len p (take (prefix_len p cs) cs) ≡ prefix_len p cs
    → prefix_len p (take (cond b (1 + prefix_len p cs) 0) (c ∷ cs)) ≡ cond b (1 + prefix_len p cs) 0
run_by p c cs true e h =
    let o : 1 + prefix_len p cs ≡ suc (prefix_len p cs) = omega arith in
    rw (o, e, h) (omega arith)
run_by p c cs false e h = refl

take_run : (p : ℕ → Bool) (cs : List ℕ) → prefix_len p (take (prefix_len p cs) cs) ≡ prefix_len p cs
take_run p [] = refl
take_run p (c ∷ cs) = run_by p c cs (p c) refl (take_run p cs)

name_kept : (cs : List ℕ) (k : TokenKind) (n : ℕ) → Found Name (prefix_len is_name_byte cs) ≡ Found k n → Found Name (prefix_len is_name_byte (take n cs)) ≡ Found k n
name_kept cs k n e =
    let q : prefix_len is_name_byte cs ≡ n = cc in
    let r : prefix_len is_name_byte (take n cs) ≡ n = rw q at (take_run is_name_byte cs) in
    ap (λ m. Found Name m) (r ∙ sym q) ∙ e

digits_by : (ds : List ℕ) (b : Bool) → eqb (get_or ds 0 0) 48 ≡ b → digits_len (take (cond b 1 (prefix_len is_digit ds)) ds) ≡ cond b 1 (prefix_len is_digit ds)
digits_by ds true e = let a = get_or-take 1 ds 0 0 (lit< tt) in rw (a, e) refl
digits_by ds false e =
    let f : eqb (get_or (take (prefix_len is_digit ds) ds) 0 0) 48 ≡ false = false_from_ne_true _ (λ t.
    let x : false ≡ true = sym e ∙ same_byte ds (prefix_len is_digit ds) 0 48 (lit< tt) t in
    cc) in
    rw f (take_run is_digit ds)

digits_kept : (ds : List ℕ) → digits_len (take (digits_len ds) ds) ≡ digits_len ds
digits_kept ds = digits_by ds (eqb (get_or ds 0 0) 48) refl

int_found : (text rest : List ℕ) (k : TokenKind) (n : ℕ) → int_before text rest ≡ Found k n → (Found Int (length text - 1) ≡ Found k n) × (is_in_i64 text ≡ true)
unfolding int_before
int_found text rest k n e =
    ⊎_elim (λ w. absurd (wrong_found 3 0 k n w.1)) (λ w. ⊎_elim (λ v. absurd (wrong_found 2 0 k n v.1)) (λ v. ⊎_elim (λ u. (u.1, u.0)) (λ u. absurd (wrong_found 2 0 k n u.1))
    (choice (is_in_i64 text) _ _ _ v.1)) (choice (is_name_byte (get_or rest 0 0)) _ _ _ w.1)) (choice (is_float_mark (get_or rest 0 0)) _ _ _ e)

int_alone : (text : List ℕ) → is_in_i64 text ≡ true → int_before text [] ≡ Found Int (length text - 1)
unfolding int_before
int_alone text e = rw e refl

-- the text of the Int that some bytes begin with
number_alone : (bs : List ℕ) (s d : ℕ) → s ≡ sign_len bs → d ≡ digits_len (drop s bs) → 0 < d → is_in_i64 (take (s + d) bs) ≡ true → number (take (s + d) bs) ≡ Found Int (length (take (s + d) bs) - 1)
unfolding number
number_alone bs s d p q l i =
    let a = get_or-take (s + d) bs 0 0 (omega arith) in
    let z : sign_len (take (s + d) bs) ≡ s = rw (a, p) refl in
    let y : digits_len (drop s (take (s + d) bs)) ≡ d = rw (drop-take s d bs, q) (digits_kept (drop s bs)) in
    let f : eqb d 0 ≡ false = ne_eqb d 0 (λ e. omega arith) in
    let m : length (take (s + d) bs) ≤ s + d = omega (arith, length-take (s + d) bs) in
    let t = take_all (s + d) (take (s + d) bs) m in
    let r = drop_all (s + d) (take (s + d) bs) m in
    rw (z, y, f, t, r) (int_alone (take (s + d) bs) i)

number_from : (bs : List ℕ) (k : TokenKind) (n : ℕ) → 0 < length bs → ¬ (digits_len (drop (sign_len bs) bs) ≡ 0)
    → (Found Int (length (take (int_len bs) bs) - 1) ≡ Found k n) × (is_in_i64 (take (int_len bs) bs) ≡ true) → number (take (1 + n) bs) ≡ Found k n
number_from bs k n l d h =
    let q : length (take (int_len bs) bs) - 1 ≡ n = let f = h.0 in cc in
    let m : 1 + n ≡ min (int_len bs) (length bs) = omega (arith, q, length-take (int_len bs) bs, digits_some (sign_len bs) (digits_len (drop (sign_len bs) bs)) d) in
    let t : take (1 + n) bs ≡ take (int_len bs) bs = rw m (take_min (int_len bs) bs) in
    rw t (number_alone bs (sign_len bs) (digits_len (drop (sign_len bs) bs)) refl refl (omega arith) h.1 ∙ h.0)

number_kept : (bs : List ℕ) (k : TokenKind) (n : ℕ) → 0 < length bs → number bs ≡ Found k n → number (take (1 + n) bs) ≡ Found k n
unfolding number
number_kept bs k n l e =
    ⊎_elim (λ w. absurd (wrong_found 2 0 k n w.1)) (λ w. number_from bs k n l (eqb-false _ 0 w.0) (int_found (take (int_len bs) bs) (drop (int_len bs) bs) k n w.1)) (choice (eqb (digits_len (drop (sign_len bs) bs)) 0) _ _ _ e)

-- ---- any token

spread_kept : (bs : List ℕ) (n : ℕ) → is_spread bs ≡ true → 2 ≤ n → is_spread (take (suc n) bs) ≡ true
spread_kept bs n t l =
    let a = get_or-take (suc n) bs 0 0 (omega arith) in
    let b = get_or-take (suc n) bs 1 0 (omega arith) in
    let c = get_or-take (suc n) bs 2 0 (omega arith) in
    rw (a, b, c) t

spread_more : (k : TokenKind) (n : ℕ) → Found Punct 2 ≡ Found k n → 2 ≤ n
spread_more k n e = let q : 2 ≡ n = cc in omega arith

number_on : (c : ℕ) (cs : List ℕ) (k : TokenKind) (n : ℕ) → number (c ∷ cs) ≡ Found k n → number (c ∷ take n cs) ≡ Found k n
number_on c cs k n e = let o : 1 + n ≡ suc n = omega arith in rw o at (number_kept (c ∷ cs) k n (omega arith) e)

head_kept : (c : ℕ) (cs : List ℕ) (k : TokenKind) (n : ℕ) → head (c ∷ cs) ≡ Found k n → head (c ∷ take n cs) ≡ Found k n
unfolding head
head_kept c cs k n e =
    step_same (is_ignored c) (Ignored 0) (Ignored 0) _ _ (Found k n) (λ x. x)
    (step_kept (is_mark (c ∷ cs)) (is_mark (c ∷ take n cs)) (Ignored 2) (Ignored 2) _ _ (Found k n) (λ t x. absurd (ignored_found 2 k n x))
    (λ f. three_shorter (c ∷ cs) (suc n) 239 187 191 (lit< tt) (lit< tt) (lit< tt) f)
    (step_same (eqb c 35) (comment cs) (comment (take n cs)) _ _ (Found k n) (λ x. absurd (no_comment cs k n x))
    (step_same (is_punctuator c) (Found Punct 0) (Found Punct 0) _ _ (Found k n) (λ x. x)
    (step_kept (is_spread (c ∷ cs)) (is_spread (c ∷ take n cs)) (Found Punct 2) (Found Punct 2) _ _ (Found k n) (λ t x. (spread_kept (c ∷ cs) n t (spread_more k n x), x))
    (λ f. three_shorter (c ∷ cs) (suc n) 46 46 46 (lit< tt) (lit< tt) (lit< tt) f)
    (step_same (is_name_start c) _ _ _ _ (Found k n) (name_kept cs k n)
    (step_same (is_number_start c) _ _ _ _ (Found k n) (number_on c cs k n)
    (step_same (eqb c 34) _ _ (Wrong 1 0) (Wrong 1 0) (Found k n) (string_kept cs k n) (λ x. x)))))))) e

pub found_token : (bs : List ℕ) (k : TokenKind) (n : ℕ) → n < length bs → head bs ≡ Found k n → IsToken k (take (1 + n) bs)
unfolding IsToken
found_token [] k n l e = absurd (omega arith)
found_token (c ∷ cs) k n l e =
    let o : 1 + n ≡ suc n = omega arith in
    let m : suc (length (take n cs)) - 1 ≡ n = omega (arith, length-take n cs) in
    rw (o, m) (head_kept c cs k n e)
