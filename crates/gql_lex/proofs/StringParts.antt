-- Where a string ends, by the parts that stand between its quotes.
use Rattle.std.proofs.Common.{◌≡◌, ◌<◌, ◌≤◌, ℕ, zero, suc, ◌+◌, ◌⊎◌, true, false, cond, eqb, ◌&&◌, List, [], ◌∷◌, ◌++◌, length, get_or, drop, Result, Ok, Err, refl, sym, ap, ◌∙◌, subst, arith, lit<, inl, inr, ⊎_elim, true≢false}
use Rattle.std.proofs.lemmas.Bool.{and_parts, eqb-true, eqb-false}
use Rattle.std.proofs.lemmas.List.{length-drop, get_or_append_left}
use Rattle.gql_lex.specs.Characters.{may_stand, may_stand_in_block, is_three_quotes, is_escaped_quotes}
use Rattle.gql_lex.specs.Lexemes.{Part, character, escape, unicode, IsPart, AreParts, part_then, parts_then, BlockPart, letter, quotes, block_then, AreBlockParts}
use Rattle.gql_lex.specs.Strings.{further, and_then, escape_len, text_end, block_end, is_simple_escape, is_hex, is_four_hex, code_of_hex, is_surrogate}
use Rattle.gql_lex.proofs.Skips.{text_quote, text_escape, text_plain, text_end-skip, block_quotes, block_escape, block_plain, block_end-skip}
use Rattle.gql_lex.proofs.Fronts.{choice, three_bytes}

pub ok_inj : (m n : ℕ) → ◌≡◌ {A = Result ℕ ℕ} (Ok m) (Ok n) → m ≡ n
ok_inj m n e = cc

pub ok_not_err : (code n : ℕ) → ¬ (◌≡◌ {A = Result ℕ ℕ} (Err code) (Ok n))
ok_not_err code n e = cc

-- ---- a Text, from its parts

pub part_then-append : (p : Part) (xs ys : List ℕ) → part_then p (xs ++ ys) ≡ part_then p xs ++ ys
part_then-append (character c) xs ys = refl
part_then-append (escape c) xs ys = refl
part_then-append (unicode a b c d) xs ys = refl

pub parts_then-append : (ps : List Part) (rest : List ℕ) → parts_then ps rest ≡ parts_then ps [] ++ rest
parts_then-append [] rest = refl
parts_then-append (p ∷ ps) rest = ap (part_then p) (parts_then-append ps rest) ∙ part_then-append p (parts_then ps []) rest

one_more : (n k : ℕ) (r : Result ℕ ℕ) → r ≡ Ok k → further n r ≡ Ok (n + k)
one_more n k r e = ap (further n) e

simple_len : (c : ℕ) (cs : List ℕ) → is_simple_escape c ≡ true → Ok 1 ≡ escape_len (c ∷ cs)
unfolding escape_len
simple_len c cs h = rw h refl

unicode_len : (a b c d : ℕ) (cs : List ℕ) → is_four_hex (a ∷ b ∷ c ∷ d ∷ []) ≡ true → is_surrogate (code_of_hex (a ∷ b ∷ c ∷ d ∷ [])) ≡ false → Ok 5 ≡ escape_len (117 ∷ a ∷ b ∷ c ∷ d ∷ cs)
unfolding escape_len
unicode_len a b c d cs h s = rw (h, s) refl

pub text_ends : (ps : List Part) (rest : List ℕ) → AreParts ps → text_end 0 (parts_then ps rest) ≡ Ok (length (parts_then ps []))
text_ends [] rest all = text_quote (34 ∷ rest) (omega arith) refl
text_ends (character c ∷ ps) rest all =
    text_plain (c ∷ parts_then ps rest) (omega arith) all.0.1 all.0.2 all.0.0
    ∙ one_more 1 (length (parts_then ps [])) (text_end 0 (parts_then ps rest)) (text_ends ps rest all.1)
    ∙ ap (λ (k : ℕ). Ok k) (omega arith)
text_ends (escape c ∷ ps) rest all =
    text_escape (92 ∷ c ∷ parts_then ps rest) 1 (omega arith) refl (simple_len c (parts_then ps rest) all.0)
    ∙ one_more 2 (length (parts_then ps [])) (text_end 0 (parts_then ps rest)) (text_ends ps rest all.1)
    ∙ ap (λ (k : ℕ). Ok k) (omega arith)
text_ends (unicode a b c d ∷ ps) rest all =
    text_escape (92 ∷ 117 ∷ a ∷ b ∷ c ∷ d ∷ parts_then ps rest) 5 (omega arith) refl (unicode_len a b c d (parts_then ps rest) all.0.0 all.0.1)
    ∙ one_more 6 (length (parts_then ps [])) (text_end 0 (parts_then ps rest)) (text_ends ps rest all.1)
    ∙ ap (λ (k : ℕ). Ok k) (omega arith)

-- ---- a Text, to its parts

-- the bytes begin with n bytes that are parts and a quote
abbrev pub BeginsText : List ℕ → ℕ → Type 0
BeginsText bs n = (ps : List Part) × AreParts ps × ((rest : List ℕ) × (bs ≡ parts_then ps rest) × (n ≡ length (parts_then ps [])))

with_part : (p : Part) (cs : List ℕ) (n m : ℕ) → IsPart p → BeginsText cs n → m ≡ length (part_then p []) + n → BeginsText (part_then p cs) m
with_part (character c) cs n m is b e = (character c ∷ b.0, (is, b.1), (b.2.0, ap (λ xs. c ∷ xs) b.2.1, omega (arith, e, b.2.2)))
with_part (escape c) cs n m is b e = (escape c ∷ b.0, (is, b.1), (b.2.0, ap (λ xs. 92 ∷ c ∷ xs) b.2.1, omega (arith, e, b.2.2)))
with_part (unicode p q r s) cs n m is b e = (unicode p q r s ∷ b.0, (is, b.1), (b.2.0, ap (λ xs. 92 ∷ 117 ∷ p ∷ q ∷ r ∷ s ∷ xs) b.2.1, omega (arith, e, b.2.2)))

further_ok : (k n : ℕ) (r : Result ℕ ℕ) → further k r ≡ Ok n → (m : ℕ) × (r ≡ Ok m) × (k + m ≡ n)
further_ok k n (Ok m) e = (m, refl, ok_inj (k + m) n e)
further_ok k n (Err code) e = absurd (ok_not_err code n e)

-- an escape, by the bytes after its backslash
abbrev Escaped : List ℕ → ℕ → Type 0
Escaped cs m = ((c : ℕ) × ((rest : List ℕ) × (cs ≡ c ∷ rest) × (is_simple_escape c ≡ true) × (m ≡ 1)))
    ⊎ ((a : ℕ) × (b : ℕ) × (c : ℕ) × (d : ℕ) × (rest : List ℕ) × (cs ≡ 117 ∷ a ∷ b ∷ c ∷ d ∷ rest) × IsPart (unicode a b c d) × (m ≡ 5))

no_hex : is_hex 0 ≡ true → ⊥
no_hex e = true≢false (sym e)

four_hex : (cs : List ℕ) (m : ℕ) → is_four_hex cs ≡ true → is_surrogate (code_of_hex cs) ≡ false → m ≡ 5 → Escaped (117 ∷ cs) m
four_hex [] m h s e = absurd (no_hex (and_parts (is_hex 0 && is_hex 0 && is_hex 0) (is_hex 0) h).1)
four_hex (a ∷ []) m h s e = absurd (no_hex (and_parts (is_hex a && is_hex 0 && is_hex 0) (is_hex 0) h).1)
four_hex (a ∷ b ∷ []) m h s e = absurd (no_hex (and_parts (is_hex a && is_hex b && is_hex 0) (is_hex 0) h).1)
four_hex (a ∷ b ∷ c ∷ []) m h s e = absurd (no_hex (and_parts (is_hex a && is_hex b && is_hex c) (is_hex 0) h).1)
four_hex (a ∷ b ∷ c ∷ d ∷ rest) m h s e = inr (a, b, c, d, rest, refl, (h, s), e)

unicode_escape : (c : ℕ) (cs : List ℕ) (m : ℕ) → cond {A = Result ℕ ℕ} (eqb c 117 && is_four_hex cs) (cond (is_surrogate (code_of_hex cs)) (Err 5) (Ok 5)) (Err 4) ≡ Ok m → Escaped (c ∷ cs) m
unicode_escape c cs m e =
    ⊎_elim
    (λ w. let p = and_parts (eqb c 117) (is_four_hex cs) w.0 in
    ⊎_elim (λ v. absurd (ok_not_err 5 m v.1))
    (λ v. let u = eqb-true c 117 p.0 in rw u (four_hex cs m p.1 v.0 (sym (ok_inj 5 m v.1))))
    (choice (is_surrogate (code_of_hex cs)) _ _ _ w.1))
    (λ w. absurd (ok_not_err 4 m w.1))
    (choice (eqb c 117 && is_four_hex cs) _ _ _ e)

escape_is : (cs : List ℕ) (m : ℕ) → escape_len cs ≡ Ok m → Escaped cs m
unfolding escape_len
escape_is [] m e = absurd (ok_not_err 4 m e)
escape_is (c ∷ cs) m e =
    ⊎_elim (λ w. inl (c, (cs, refl, w.0, sym (ok_inj 1 m w.1)))) (λ w. unicode_escape c cs m w.1) (choice (is_simple_escape c) _ _ _ e)

-- by what stands in front, where shorter bytes are known
text_first : (k c : ℕ) (cs : List ℕ) (n : ℕ) → length (c ∷ cs) ≤ suc k → ((xs : List ℕ) (m : ℕ) → length xs ≤ k → text_end 0 xs ≡ Ok m → BeginsText xs m)
    → text_end 0 (c ∷ cs) ≡ Ok n → BeginsText (c ∷ cs) n
unfolding text_end
text_first k c cs n l next e =
    ⊎_elim
    (λ w. let q = eqb-true c 34 w.0 in rw q ([], tt, (cs, refl, sym (ok_inj 1 n w.1))))
    (λ w. ⊎_elim (λ v. escaped (eqb-true c 92 v.0) (escape_len cs) refl v.1) (λ v.
    ⊎_elim (λ u. plain (eqb-false c 34 w.0) (eqb-false c 92 v.0) u.0 u.1) (λ u. absurd (ok_not_err 4 n u.1)) (choice (may_stand c) _ _ _ v.1))
    (choice (eqb c 92) _ _ _ w.1))
    (choice (eqb c 34) _ _ _ e)
  where
    plain : ¬ (c ≡ 34) → ¬ (c ≡ 92) → may_stand c ≡ true → further 1 (text_end 0 cs) ≡ Ok n → BeginsText (c ∷ cs) n
    plain q b m f =
        let r = further_ok 1 n (text_end 0 cs) f in
        with_part (character c) cs r.0 n (m, q, b) (next cs r.0 (omega arith) r.1) (sym r.2)

    taken : (m : ℕ) → further 1 (text_end m cs) ≡ Ok n → (d : ℕ) × (text_end 0 (drop m cs) ≡ Ok d) × (1 + m + d ≡ n)
    taken m f =
        let r = further_ok 1 n (text_end m cs) f in
        let s = further_ok m r.0 (text_end 0 (drop m cs)) (sym (text_end-skip m cs) ∙ r.1) in
        (s.0, s.1, omega (arith, r.2, s.2))

    escaped : c ≡ 92 → (r : Result ℕ ℕ) → escape_len cs ≡ r → and_then r (λ m. further 1 (text_end m cs)) ≡ Ok n → BeginsText (c ∷ cs) n
    escaped b (Err code) h f = absurd (ok_not_err code n f)
    escaped b (Ok m) h f =
        let t = taken m f in
        let ih = next (drop m cs) t.0 (omega (arith, length-drop m cs)) t.1 in
        rw b (⊎_elim
        (λ s. let d : drop m cs ≡ s.1.0 = rw (s.1.1, s.1.3) refl in
        let there : BeginsText s.1.0 t.0 = subst (λ xs. BeginsText xs t.0) d ih in
        rw (s.1.1) (with_part (escape s.0) s.1.0 t.0 n s.1.2 there (omega (arith, t.2, s.1.3))))
        (λ u. let d : drop m cs ≡ u.4 = rw (u.5, u.7) refl in
        let there : BeginsText u.4 t.0 = subst (λ xs. BeginsText xs t.0) d ih in
        rw (u.5) (with_part (unicode u.0 u.1 u.2 u.3) u.4 t.0 n u.6 there (omega (arith, t.2, u.7))))
        (escape_is cs m h))

text_begins : (k : ℕ) (bs : List ℕ) (n : ℕ) → length bs ≤ k → text_end 0 bs ≡ Ok n → BeginsText bs n
unfolding text_end
text_begins k [] n l e = absurd (ok_not_err 4 n e)
text_begins zero (c ∷ cs) n l e = absurd (omega arith)
text_begins (suc k) (c ∷ cs) n l e = text_first k c cs n l (λ xs m h f. text_begins k xs m h f) e

-- the bytes up to where a Text ends are parts and a quote
pub text_parts : (bs : List ℕ) (n : ℕ) → text_end 0 bs ≡ Ok n → BeginsText bs n
text_parts bs n e = text_begins (length bs) bs n (omega arith) e

-- ---- a Block, from its parts

pub block_then-append : (ps : List BlockPart) (rest : List ℕ) → block_then ps rest ≡ block_then ps [] ++ rest
block_then-append [] rest = refl
block_then-append (letter c ∷ ps) rest = ap (λ xs. c ∷ xs) (block_then-append ps rest)
block_then-append (quotes ∷ ps) rest = ap (λ xs. 92 ∷ 34 ∷ 34 ∷ 34 ∷ xs) (block_then-append ps rest)

some_quotes : (ps : List BlockPart) → 3 ≤ length (block_then ps [])
some_quotes [] = omega arith
some_quotes (letter c ∷ ps) = omega (arith, some_quotes ps)
some_quotes (quotes ∷ ps) = omega (arith, some_quotes ps)

front_same : (ps : List BlockPart) (rest : List ℕ) (i : ℕ) → i < 3 → get_or (block_then ps rest) i 0 ≡ get_or (block_then ps []) i 0
front_same ps rest i h =
    ap (λ xs. get_or xs i 0) (block_then-append ps rest) ∙ get_or_append_left (block_then ps []) rest 0 i (omega (arith, some_quotes ps))

three_same : (c : ℕ) (ps : List BlockPart) (rest : List ℕ) → is_three_quotes (c ∷ block_then ps rest) ≡ is_three_quotes (c ∷ block_then ps [])
three_same c ps rest = rw (front_same ps rest 0 (omega arith), front_same ps rest 1 (omega arith)) refl

escaped_same : (c : ℕ) (ps : List BlockPart) (rest : List ℕ) → is_escaped_quotes (c ∷ block_then ps rest) ≡ is_escaped_quotes (c ∷ block_then ps [])
escaped_same c ps rest = rw (front_same ps rest 0 (omega arith), front_same ps rest 1 (omega arith), front_same ps rest 2 (omega arith)) refl

pub block_ends : (ps : List BlockPart) (rest : List ℕ) → AreBlockParts ps → block_end 0 (block_then ps rest) ≡ Ok (length (block_then ps []))
block_ends [] rest all = block_quotes (34 ∷ 34 ∷ 34 ∷ rest) (omega arith) refl
block_ends (letter c ∷ ps) rest all =
    block_plain (c ∷ block_then ps rest) (omega arith) (three_same c ps rest ∙ all.1) (escaped_same c ps rest ∙ all.2) all.0
    ∙ one_more 1 (length (block_then ps [])) (block_end 0 (block_then ps rest)) (block_ends ps rest all.3)
    ∙ ap (λ (k : ℕ). Ok k) (omega arith)
block_ends (quotes ∷ ps) rest all =
    block_escape (92 ∷ 34 ∷ 34 ∷ 34 ∷ block_then ps rest) (omega arith) refl refl
    ∙ one_more 4 (length (block_then ps [])) (block_end 0 (block_then ps rest)) (block_ends ps rest all)
    ∙ ap (λ (k : ℕ). Ok k) (omega arith)

-- ---- a Block, to its parts

abbrev pub BeginsBlock : List ℕ → ℕ → Type 0
BeginsBlock bs n = (ps : List BlockPart) × AreBlockParts ps × ((rest : List ℕ) × (bs ≡ block_then ps rest) × (n ≡ length (block_then ps [])))

escaped_are : (c : ℕ) (cs : List ℕ) → is_escaped_quotes (c ∷ cs) ≡ true → (rest : List ℕ) × (c ∷ cs ≡ 92 ∷ 34 ∷ 34 ∷ 34 ∷ rest)
escaped_are c cs e =
    let p = and_parts (eqb c 92) (is_three_quotes cs) e in
    let q = three_bytes 34 34 34 cs (lit< tt) p.1 in
    (q.0, λ i. eqb-true c 92 p.0 i ∷ q.1 i)

-- by what stands in front, where shorter bytes are known
block_first : (k c : ℕ) (cs : List ℕ) (n : ℕ) → length (c ∷ cs) ≤ suc k → ((xs : List ℕ) (m : ℕ) → length xs ≤ k → block_end 0 xs ≡ Ok m → BeginsBlock xs m)
    → block_end 0 (c ∷ cs) ≡ Ok n → BeginsBlock (c ∷ cs) n
unfolding block_end
block_first k c cs n l next e =
    ⊎_elim
    (λ w. let q = three_bytes 34 34 34 (c ∷ cs) (lit< tt) w.0 in ([], tt, (q.0, q.1, sym (ok_inj 3 n w.1))))
    (λ w. ⊎_elim (λ v. escaped v.0 v.1) (λ v.
    ⊎_elim (λ u. plain w.0 v.0 u.0 u.1) (λ u. absurd (ok_not_err 4 n u.1)) (choice (may_stand_in_block c) _ _ _ v.1))
    (choice (is_escaped_quotes (c ∷ cs)) _ _ _ w.1))
    (choice (is_three_quotes (c ∷ cs)) _ _ _ e)
  where
    plain : is_three_quotes (c ∷ cs) ≡ false → is_escaped_quotes (c ∷ cs) ≡ false → may_stand_in_block c ≡ true → further 1 (block_end 0 cs) ≡ Ok n → BeginsBlock (c ∷ cs) n
    plain q b m f =
        let r = further_ok 1 n (block_end 0 cs) f in
        let ih = next cs r.0 (omega arith) r.1 in
        let t : is_three_quotes (c ∷ block_then ih.0 []) ≡ false = sym (three_same c ih.0 ih.2.0) ∙ (rw ih.2.1 at q) in
        let s : is_escaped_quotes (c ∷ block_then ih.0 []) ≡ false = sym (escaped_same c ih.0 ih.2.0) ∙ (rw ih.2.1 at b) in
        (letter c ∷ ih.0, (m, t, s, ih.1), (ih.2.0, ap (λ xs. c ∷ xs) ih.2.1, omega (arith, r.2, ih.2.2)))

    escaped : is_escaped_quotes (c ∷ cs) ≡ true → further 1 (block_end 3 cs) ≡ Ok n → BeginsBlock (c ∷ cs) n
    escaped b f =
        let q = escaped_are c cs b in
        let r = further_ok 1 n (block_end 3 cs) f in
        let s = further_ok 3 r.0 (block_end 0 (drop 3 cs)) (sym (block_end-skip 3 cs) ∙ r.1) in
        let d : drop 3 cs ≡ q.0 = ap (λ xs. drop 4 xs) q.1 in
        let ih = next (drop 3 cs) s.0 (omega (arith, length-drop 3 cs)) s.1 in
        let there : BeginsBlock q.0 s.0 = subst (λ xs. BeginsBlock xs s.0) d ih in
        rw q.1 (quotes ∷ there.0, there.1, (there.2.0, ap (λ xs. 92 ∷ 34 ∷ 34 ∷ 34 ∷ xs) there.2.1, omega (arith, r.2, s.2, there.2.2)))

block_begins : (k : ℕ) (bs : List ℕ) (n : ℕ) → length bs ≤ k → block_end 0 bs ≡ Ok n → BeginsBlock bs n
unfolding block_end
block_begins k [] n l e = absurd (ok_not_err 4 n e)
block_begins zero (c ∷ cs) n l e = absurd (omega arith)
block_begins (suc k) (c ∷ cs) n l e = block_first k c cs n l (λ xs m h f. block_begins k xs m h f) e

-- the bytes up to where a Block ends are parts and three quotes
pub block_parts : (bs : List ℕ) (n : ℕ) → block_end 0 bs ≡ Ok n → BeginsBlock bs n
block_parts bs n e = block_begins (length bs) bs n (omega arith) e
