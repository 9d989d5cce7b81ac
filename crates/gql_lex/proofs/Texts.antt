-- A Text from a place in it on: it ends with the last byte, and its value goes on there.
use Rattle.std.proofs.Common.{◌≡◌, ℕ, zero, suc, ◌+◌, ◌-◌, ◌<◌, ◌≤◌, ◌⊎◌, Bool, true, false, cond, eqb, List, [], ◌∷◌, ◌++◌, length, get_or, take, drop, Result, Ok, Err, IfOk, IsOk, lit<, refl, arith, sym, ap, ◌∙◌, inl, inr, ⊎_elim}
use Rattle.std.specs.List.{between}
use Rattle.std.specs.Char.{encode_utf8}
use Rattle.std.proofs.lemmas.Bool.{or_parts, eqb-true, eq-eqb, ne_eqb, le-ltb, cases_lt, cases_eq, or_cases, or_right, cond_both}
use Rattle.std.proofs.lemmas.List.{length-drop, drop-drop, get_or-drop}
use Rattle.gql_lex.specs.Characters.{may_stand}
use Rattle.gql_lex.specs.Strings.{further, and_then, escape_len, text_end, is_simple_escape, is_hex}
use Rattle.gql_lex.specs.Values.{IsTextRest, text_value, escape_char, escaped_len, run_before, stops_text}
use Rattle.gql_lex.proofs.Extents.{or_below, same_below, Closes, text_end-closes}
use Rattle.gql_lex.proofs.Skips.{text_end-skip}
use Rattle.gql_lex.proofs.Escapes.{unicode_ok, four_hex}

pub further_one : (r : Result ℕ ℕ) (n : ℕ) → further 1 r ≡ Ok (suc n) → r ≡ Ok n
further_one (Ok k) n e =
    let p : 1 + k ≡ suc n = cc in
    let q : k ≡ n = omega arith in
    ap (λ (m : ℕ). Ok m) q
further_one (Err code) n e = cc

-- ---- plain bytes

plain_ends : (c : ℕ) (cs : List ℕ) (m : Bool) → may_stand c ≡ m → cond m (further 1 (text_end 0 cs)) (Err 4) ≡ Ok (suc (length cs)) → IsTextRest cs
plain_ends c cs true t e = further_one (text_end 0 cs) (length cs) e
plain_ends c cs false t e = cc

pub record Plain (bs : List ℕ) (n : ℕ) : Type 0 where
  pub ended : IsTextRest (drop n bs)
  pub value : text_value 0 bs ≡ take n bs ++ text_value 0 (drop n bs)
  pub within : n < length bs
  pub stops : stops_text (drop n bs) ≡ true

plain_one : (c : ℕ) (cs : List ℕ) → IsTextRest (c ∷ cs) → stops_text (c ∷ cs) ≡ false → IsTextRest cs × (text_value 0 (c ∷ cs) ≡ c ∷ text_value 0 cs)
unfolding text_end text_value
plain_one c cs e s =
    let p = or_parts (eqb c 34) (eqb c 92) s in
    (plain_ends c cs (may_stand c) refl (rw (p.0, p.1) at e), rw (p.0, p.1) refl)

plain_next : (c : ℕ) (cs : List ℕ) (n : ℕ) → text_value 0 (c ∷ cs) ≡ c ∷ text_value 0 cs → Plain cs n → Plain (c ∷ cs) (1 + n)
plain_next c cs n v p =
    let o : 1 + n ≡ suc n = omega arith in
    rw o (record { ended = p.ended; value = v ∙ ap (λ r. c ∷ r) p.value; within = omega (arith, p.within); stops = p.stops })

plain_here : (c : ℕ) (cs : List ℕ) → IsTextRest (c ∷ cs) → stops_text (c ∷ cs) ≡ true → Plain (c ∷ cs) 0
plain_here c cs e s = record { ended = e; value = refl; within = omega arith; stops = s }

plain_by : (c : ℕ) (cs : List ℕ) (n : ℕ) (b : Bool) → stops_text (c ∷ cs) ≡ b → IsTextRest (c ∷ cs) → (IsTextRest cs → Plain cs n) → Plain (c ∷ cs) (cond b 0 (1 + n))
plain_by c cs n true s e h = plain_here c cs e s
plain_by c cs n false s e h = let p = plain_one c cs e s in plain_next c cs n p.1 (h p.0)

not_empty : IsTextRest [] → ⊥
unfolding text_end
not_empty e = cc

pub plain_run : (bs : List ℕ) → IsTextRest bs → Plain bs (run_before stops_text bs)
plain_run [] e = absurd (not_empty e)
plain_run (c ∷ cs) e = plain_by c cs (run_before stops_text cs) (stops_text (c ∷ cs)) refl e (plain_run cs)

-- ---- the quote, and an escape

pub quote_ends : (bs : List ℕ) → 0 < length bs → get_or bs 0 0 ≡ 34 → text_value 0 bs ≡ []
unfolding text_value
quote_ends [] l e = absurd (omega arith)
quote_ends (c ∷ cs) l e = rw (eq-eqb c 34 e) refl

text_value-skip : (n : ℕ) (bs : List ℕ) → text_value n bs ≡ text_value 0 (drop n bs)
unfolding text_value
text_value-skip zero bs = refl
text_value-skip (suc n) [] = refl
text_value-skip (suc n) (c ∷ cs) = text_value-skip n cs

far_from_hex : (c : ℕ) → 128 ≤ c → is_hex c ≡ true → ⊥
far_from_hex c h e =
    let a = le-ltb c 48 (omega arith) in
    let b = le-ltb c 58 (omega arith) in
    let d = le-ltb c 65 (omega arith) in
    let f = le-ltb c 91 (omega arith) in
    let g = le-ltb c 97 (omega arith) in
    let i = le-ltb c 123 (omega arith) in
    let k : false ≡ true = rw (a, b, d, f, g, i) at e in
    cc

pub hex_below : (c : ℕ) → is_hex c ≡ true → c < 128
hex_below c e = ⊎_elim (λ l. l) (λ h. absurd (far_from_hex c h e)) (cases_lt c 128)

pub simple_below : (c : ℕ) → is_simple_escape c ≡ true → c < 128
simple_below c =
    or_below c _ (eqb c 116)
    (or_below c _ (eqb c 114)
    (or_below c _ (eqb c 110)
    (or_below c _ (eqb c 102)
    (or_below c _ (eqb c 98)
    (or_below c _ (eqb c 47)
    (or_below c (eqb c 34) (eqb c 92)
    (same_below c 34 (lit< tt)) (same_below c 92 (lit< tt))) (same_below c 47 (lit< tt))) (same_below c 98 (lit< tt))) (same_below c 102 (lit< tt)))
    (same_below c 110 (lit< tt))) (same_below c 114 (lit< tt))) (same_below c 116 (lit< tt))

-- an escape without fault: its length, and its last byte
pub record Escape (es : List ℕ) : Type 0 where
  pub is : escape_len es ≡ Ok (escaped_len es)
  pub last : get_or es (escaped_len es - 1) 0 < 128

pub not_unicode : (es : List ℕ) → ¬ (get_or es 0 0 ≡ 117) → escape_len es ≡ cond (is_simple_escape (get_or es 0 0)) (Ok 1) (Err 4)
unfolding escape_len
not_unicode es n = rw (ne_eqb (get_or es 0 0) 117 n) refl

pub is_simple : (s : Bool) → IsOk {T = ℕ} {E = ℕ} (cond s (Ok 1) (Err 4)) → s ≡ true
is_simple true o = refl
is_simple false o = cc

pub unicode_is : (es : List ℕ) → IsOk (escape_len es) → get_or es 0 0 ≡ 117 → escape_len es ≡ Ok 5
unfolding escape_len
unicode_is es o u = let k = unicode_ok es o u in rw (u, k.0, k.1) refl

simple_escape_ok : (es : List ℕ) → IsOk (escape_len es) → ¬ (get_or es 0 0 ≡ 117) → Escape es
simple_escape_ok es o n =
    let s = not_unicode es n in
    let t = is_simple (is_simple_escape (get_or es 0 0)) (rw s at o) in
    let f = ne_eqb (get_or es 0 0) 117 n in
    record { is = rw (f, s, t) refl; last = rw f (simple_below (get_or es 0 0) t) }

unicode_escape_ok : (es : List ℕ) → IsOk (escape_len es) → get_or es 0 0 ≡ 117 → Escape es
unicode_escape_ok es o u =
    let h = hex_below (get_or (drop 1 es) 3 0) (four_hex (drop 1 es) (unicode_ok es o u).0).fourth in
    let e = eq-eqb (get_or es 0 0) 117 u in
    record { is = rw e (unicode_is es o u); last = rw e (rw (get_or-drop 1 es 3 0) at h) }

pub escape_ok : (es : List ℕ) → IsOk (escape_len es) → Escape es
escape_ok es o = ⊎_elim (λ u. unicode_escape_ok es o u) (λ n. simple_escape_ok es o n) (cases_eq (get_or es 0 0) 117)

-- what lies behind an escape
pub record Escaped (bs : List ℕ) : Type 0 where
  pub ok : IsOk (escape_len (drop 1 bs))
  pub ended : IsTextRest (drop (1 + escaped_len (drop 1 bs)) bs)
  pub value : text_value 0 bs ≡ encode_utf8 (escape_char (drop 1 bs)) ++ text_value 0 (drop (1 + escaped_len (drop 1 bs)) bs)
  pub within : 1 + escaped_len (drop 1 bs) < length bs
  pub last : get_or bs (escaped_len (drop 1 bs)) 0 < 128

pub takes : (r : Result ℕ ℕ) (next : ℕ → Result ℕ ℕ) (m : ℕ) → and_then r next ≡ Ok m → (n : ℕ) × (r ≡ Ok n) × (next n ≡ Ok m)
takes (Ok n) next m e = (n, refl, e)
takes (Err code) next m e = (0, cc, cc)

the_none : (code l : ℕ) → further 0 (Err code) ≡ Ok l → ⊥
the_none code l e = cc

pub behind : (ds : List ℕ) (n l : ℕ) (r : Result ℕ ℕ) → IfOk r (Closes ds) → length ds ≡ l - n → further n r ≡ Ok l → (n < l) × (r ≡ Ok (length ds))
behind ds n l (Ok zero) c d e = absurd (omega (arith, c.1 0))
behind ds n l (Ok (suc k)) c d e =
    let p : n + suc k ≡ l = cc in
    let q : suc k ≡ length ds = omega arith in
    (omega arith, ap (λ (m : ℕ). Ok m) q)
behind ds n l (Err code) c d e = (absurd (the_none code l e), cc)

escape_end : (es : List ℕ) (n : ℕ) → further 1 (text_end n es) ≡ Ok (suc (length es)) → (n < length es) × IsTextRest (drop n es)
escape_end es n e =
    let f = further_one (text_end n es) (length es) e in
    let g : further n (text_end 0 (drop n es)) ≡ Ok (length es) = sym (text_end-skip n es) ∙ f in
    behind (drop n es) n (length es) (text_end 0 (drop n es)) (text_end-closes 0 (drop n es)) (length-drop n es) g

pub ok_from : (r : Result ℕ ℕ) (n : ℕ) → r ≡ Ok n → IsOk r
ok_from r n e = rw e refl

same_ok : (r : Result ℕ ℕ) (m n : ℕ) → r ≡ Ok m → r ≡ Ok n → m ≡ n
same_ok r m n e f = cc

last_at : (c : ℕ) (es : List ℕ) (n : ℕ) → 0 < n → get_or es (n - 1) 0 < 128 → get_or (c ∷ es) n 0 < 128
last_at c es zero p h = absurd (omega arith)
last_at c es (suc n) p h = let e : suc n - 1 ≡ n = omega arith in rw e at h

escaped_some : (es : List ℕ) → 0 < escaped_len es
escaped_some es = cond_both (eqb (get_or es 0 0) 117) 5 1 (λ n. 0 < n) (λ _. lit< tt) (λ _. lit< tt)

backslash_of : (c : ℕ) (cs : List ℕ) → stops_text (c ∷ cs) ≡ true → ¬ (c ≡ 34) → c ≡ 92
backslash_of c cs s n = ⊎_elim (λ q. absurd (n (eqb-true c 34 q))) (λ b. eqb-true c 92 b) (or_cases (eqb c 34) (eqb c 92) s)

pub escape_step : (bs : List ℕ) → IsTextRest bs → 0 < length bs → stops_text bs ≡ true → ¬ (get_or bs 0 0 ≡ 34) → Escaped bs
unfolding text_end text_value
escape_step [] e l s n = absurd (omega arith)
escape_step (c ∷ es) e l s n =
    let b = backslash_of c es s n in
    let f = ne_eqb c 34 n in
    let g = eq-eqb c 92 b in
    let t = takes (escape_len es) (λ k. further 1 (text_end k es)) (suc (length es)) (rw (f, g) at e) in
    let o = ok_from (escape_len es) t.0 t.1 in
    let k = escape_ok es o in
    let m = same_ok (escape_len es) t.0 (escaped_len es) t.1 k.is in
    let h = escape_end es (escaped_len es) (rw m at t.2) in
    let i : 1 + escaped_len es ≡ suc (escaped_len es) = omega arith in
    record {
      ok = o;
      ended = rw i h.1;
      value = rw (i, f, g) (ap (λ r. encode_utf8 (escape_char es) ++ r) (text_value-skip (escaped_len es) es));
      within = omega (arith, h.0);
      last = last_at c es (escaped_len es) (escaped_some es) k.last;
    }

-- ---- the same at an offset

drop_on : (bs : List ℕ) (at n : ℕ) → drop n (drop at bs) ≡ drop (at + n) bs
drop_on bs at n = drop-drop n at bs

pub plain_end_at : (bs : List ℕ) (at n : ℕ) → n ≡ run_before stops_text (drop at bs) → IsTextRest (drop at bs)
    → (at + n < length bs) × IsTextRest (drop (at + n) bs) × (text_value 0 (drop at bs) ≡ between at (at + n) bs ++ text_value 0 (drop (at + n) bs))
    × ((get_or bs (at + n) 0 ≡ 34) ⊎ (get_or bs (at + n) 0 ≡ 92))
plain_end_at bs at n e r =
    let p : Plain (drop at bs) n = rw e (plain_run (drop at bs) r) in
    let m : at + n - at ≡ n = omega arith in
    let s = rw (drop_on bs at n) at p.stops in
    let f = get_or-drop (at + n) bs 0 0 in
    let z : at + n + 0 ≡ at + n = omega arith in
    let g = rw (f, z) at s in (
      omega (arith, p.within, length-drop at bs),
      rw (drop_on bs at n) at p.ended,
      rw m (rw (drop_on bs at n) at p.value),
      ⊎_elim (λ a. inl (eqb-true (get_or bs (at + n) 0) 34 a)) (λ b. inr (eqb-true (get_or bs (at + n) 0) 92 b)) (or_cases (eqb (get_or bs (at + n) 0) 34) (eqb (get_or bs (at + n) 0) 92) g),
    )

pub escaped_at : (bs : List ℕ) (at : ℕ) → IsTextRest (drop at bs) → at < length bs → get_or bs at 0 ≡ 92 → Escaped (drop at bs)
escaped_at bs at r l e =
    let f = get_or-drop at bs 0 0 in
    let z : at + 0 ≡ at = omega arith in
    let b : get_or (drop at bs) 0 0 ≡ 92 = rw (f, z) e in
    escape_step (drop at bs) r (omega (arith, length-drop at bs)) (or_right _ _ (eq-eqb _ _ b)) (λ q. absurd (omega (arith, q, b)))

pub record EscapedAt (bs : List ℕ) (at n : ℕ) : Type 0 where
  pub ok : IsOk (escape_len (drop (at + 1) bs))
  pub rest : IsTextRest (drop (at + (1 + n)) bs)
  pub value : text_value 0 (drop at bs) ≡ encode_utf8 (escape_char (drop (at + 1) bs)) ++ text_value 0 (drop (at + (1 + n)) bs)
  pub within : at + (1 + n) < length bs
  pub last : get_or bs (at + n) 0 < 128

pub escaped_from : (bs : List ℕ) (at n : ℕ) → n ≡ escaped_len (drop (at + 1) bs) → IsTextRest (drop at bs) → at < length bs → get_or bs at 0 ≡ 92 → EscapedAt bs at n
escaped_from bs at n e r l b =
    let p = escaped_at bs at r l b in
    let d : drop 1 (drop at bs) ≡ drop (at + 1) bs = drop-drop 1 at bs in
    let f : escaped_len (drop 1 (drop at bs)) ≡ n = ap (λ x. escaped_len x) d ∙ sym e in
    let g = drop-drop (1 + n) at bs in
    record {
      ok = rw d at p.ok;
      rest = rw g at (rw f at p.ended);
      value = rw (← g, ← d) (rw f at p.value);
      within = omega (arith, rw f at p.within, length-drop at bs);
      last = rw (get_or-drop at bs n 0) at (rw f at p.last);
    }
