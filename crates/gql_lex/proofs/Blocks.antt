-- A Block from a place in it on: it ends with the last byte, and its raw text goes on there.
use Rattle.std.proofs.Common.{◌≡◌, ℕ, zero, suc, ◌+◌, ◌-◌, ◌<◌, Bool, true, false, cond, eqb, ◌&&◌, List, [], ◌∷◌, ◌++◌, length, get_or, take, drop, Ok, Err, refl, arith, sym, ap, ◌∙◌, ⊎_elim}
use Rattle.std.specs.List.{between}
use Rattle.std.proofs.lemmas.Bool.{or_parts, or_cases, and_parts, eqb-true}
use Rattle.std.proofs.lemmas.List.{length-drop, drop-drop, get_or-drop}
use Rattle.gql_lex.specs.Characters.{may_stand_in_block, is_three_quotes, is_escaped_quotes}
use Rattle.gql_lex.specs.Strings.{further, block_end}
use Rattle.gql_lex.specs.Values.{IsBlockRest, raw_text, run_before, stops_block}
use Rattle.gql_lex.proofs.Extents.{block_end-closes, third_quote}
use Rattle.gql_lex.proofs.Skips.{block_end-skip}
use Rattle.gql_lex.proofs.Texts.{further_one, behind}

plain_ends : (c : ℕ) (cs : List ℕ) (m : Bool) → may_stand_in_block c ≡ m → cond m (further 1 (block_end 0 cs)) (Err 4) ≡ Ok (suc (length cs)) → IsBlockRest cs
plain_ends c cs true t e = further_one (block_end 0 cs) (length cs) e
plain_ends c cs false t e = cc

record Plain (bs : List ℕ) (n : ℕ) : Type 0 where
  pub ended : IsBlockRest (drop n bs)
  pub value : raw_text 0 bs ≡ take n bs ++ raw_text 0 (drop n bs)
  pub within : n < length bs
  pub stops : stops_block (drop n bs) ≡ true

plain_one : (c : ℕ) (cs : List ℕ) → IsBlockRest (c ∷ cs) → stops_block (c ∷ cs) ≡ false → IsBlockRest cs × (raw_text 0 (c ∷ cs) ≡ c ∷ raw_text 0 cs)
unfolding block_end raw_text
plain_one c cs e s =
    let p = or_parts (is_three_quotes (c ∷ cs)) (is_escaped_quotes (c ∷ cs)) s in
    (plain_ends c cs (may_stand_in_block c) refl (rw (p.0, p.1) at e), rw (p.0, p.1) refl)

plain_next : (c : ℕ) (cs : List ℕ) (n : ℕ) → raw_text 0 (c ∷ cs) ≡ c ∷ raw_text 0 cs → Plain cs n → Plain (c ∷ cs) (1 + n)
plain_next c cs n v p =
    let o : 1 + n ≡ suc n = omega arith in
    rw o (record { ended = p.ended; value = v ∙ ap (λ r. c ∷ r) p.value; within = omega (arith, p.within); stops = p.stops })

plain_here : (c : ℕ) (cs : List ℕ) → IsBlockRest (c ∷ cs) → stops_block (c ∷ cs) ≡ true → Plain (c ∷ cs) 0
plain_here c cs e s = record { ended = e; value = refl; within = omega arith; stops = s }

plain_by : (c : ℕ) (cs : List ℕ) (n : ℕ) (b : Bool) → stops_block (c ∷ cs) ≡ b → IsBlockRest (c ∷ cs) → (IsBlockRest cs → Plain cs n) → Plain (c ∷ cs) (cond b 0 (1 + n))
plain_by c cs n true s e h = plain_here c cs e s
plain_by c cs n false s e h = let p = plain_one c cs e s in plain_next c cs n p.1 (h p.0)

not_empty : IsBlockRest [] → ⊥
unfolding block_end
not_empty e = cc

plain_run : (bs : List ℕ) → IsBlockRest bs → Plain bs (run_before stops_block bs)
plain_run [] e = absurd (not_empty e)
plain_run (c ∷ cs) e = plain_by c cs (run_before stops_block cs) (stops_block (c ∷ cs)) refl e (plain_run cs)

pub quotes_end : (bs : List ℕ) → 0 < length bs → is_three_quotes bs ≡ true → raw_text 0 bs ≡ []
unfolding raw_text
quotes_end [] l e = absurd (omega arith)
quotes_end (c ∷ cs) l e = rw e refl

raw_text-skip : (n : ℕ) (bs : List ℕ) → raw_text n bs ≡ raw_text 0 (drop n bs)
unfolding raw_text
raw_text-skip zero bs = refl
raw_text-skip (suc n) [] = refl
raw_text-skip (suc n) (c ∷ cs) = raw_text-skip n cs

record Escaped (bs : List ℕ) : Type 0 where
  pub ended : IsBlockRest (drop 4 bs)
  pub value : raw_text 0 bs ≡ (34 ∷ 34 ∷ 34 ∷ []) ++ raw_text 0 (drop 4 bs)
  pub within : 4 < length bs
  pub last : get_or bs 3 0 < 128

escape_end : (es : List ℕ) → further 1 (block_end 3 es) ≡ Ok (suc (length es)) → (3 < length es) × IsBlockRest (drop 3 es)
escape_end es e =
    let f = further_one (block_end 3 es) (length es) e in
    let g : further 3 (block_end 0 (drop 3 es)) ≡ Ok (length es) = sym (block_end-skip 3 es) ∙ f in
    behind (drop 3 es) 3 (length es) (block_end 0 (drop 3 es)) (block_end-closes 0 (drop 3 es)) (length-drop 3 es) g

escape_step : (bs : List ℕ) → IsBlockRest bs → 0 < length bs → is_three_quotes bs ≡ false → is_escaped_quotes bs ≡ true → Escaped bs
unfolding block_end raw_text
escape_step [] e l q s = absurd (omega arith)
escape_step (c ∷ es) e l q s =
    let t = and_parts (eqb c 92) (is_three_quotes es) s in
    let h = escape_end es (rw (q, s) at e) in
    record {
      ended = h.1;
      value = rw (q, s) (ap (λ r. 34 ∷ 34 ∷ 34 ∷ r) (raw_text-skip 3 es));
      within = omega (arith, h.0);
      last = omega (arith, third_quote es t.1);
    }

-- ---- the same at an offset

quotes_below : (bs : List ℕ) → stops_block bs ≡ true → get_or bs 0 0 < 128
quotes_below bs s =
    ⊎_elim (λ a. omega (arith, eqb-true (get_or bs 0 0) 34 (and_parts (eqb (get_or bs 0 0) 34) (eqb (get_or bs 1 0) 34) (and_parts (eqb (get_or bs 0 0) 34 && eqb (get_or bs 1 0) 34) (eqb (get_or bs 2 0) 34) a).0).0))
    (λ b. omega (arith, eqb-true (get_or bs 0 0) 92 (and_parts (eqb (get_or bs 0 0) 92) (is_three_quotes (drop 1 bs)) b).0))
    (or_cases (is_three_quotes bs) (is_escaped_quotes bs) s)

pub raw_end_at : (bs : List ℕ) (at n : ℕ) → n ≡ run_before stops_block (drop at bs) → IsBlockRest (drop at bs)
    → (at + n < length bs) × IsBlockRest (drop (at + n) bs) × (raw_text 0 (drop at bs) ≡ between at (at + n) bs ++ raw_text 0 (drop (at + n) bs))
    × (stops_block (drop (at + n) bs) ≡ true) × (get_or bs (at + n) 0 < 128)
raw_end_at bs at n e r =
    let p : Plain (drop at bs) n = rw e (plain_run (drop at bs) r) in
    let m : at + n - at ≡ n = omega arith in
    let d = drop-drop n at bs in
    let s = rw d at p.stops in
    let z : at + n + 0 ≡ at + n = omega arith in
    let b = rw (get_or-drop (at + n) bs 0 0, z) at (quotes_below (drop (at + n) bs) s) in
    (omega (arith, p.within, length-drop at bs), rw d at p.ended, rw m (rw d at p.value), s, b)

pub record EscapedAt (bs : List ℕ) (at : ℕ) : Type 0 where
  pub rest : IsBlockRest (drop (at + 4) bs)
  pub value : raw_text 0 (drop at bs) ≡ (34 ∷ 34 ∷ 34 ∷ []) ++ raw_text 0 (drop (at + 4) bs)
  pub within : at + 4 < length bs
  pub last : get_or bs (at + 3) 0 < 128

escaped_of : (bs : List ℕ) → is_three_quotes bs ≡ false → stops_block bs ≡ true → is_escaped_quotes bs ≡ true
escaped_of bs q s = ⊎_elim (λ a. let k : false ≡ true = sym q ∙ a in cc) (λ b. b) (or_cases (is_three_quotes bs) (is_escaped_quotes bs) s)

pub escaped_from : (bs : List ℕ) (at : ℕ) → IsBlockRest (drop at bs) → at < length bs → is_three_quotes (drop at bs) ≡ false → stops_block (drop at bs) ≡ true → EscapedAt bs at
escaped_from bs at r l q s =
    let p = escape_step (drop at bs) r (omega (arith, length-drop at bs)) q (escaped_of (drop at bs) q s) in
    let g = drop-drop 4 at bs in
    record {
      rest = rw g at p.ended;
      value = rw (← g) p.value;
      within = omega (arith, p.within, length-drop at bs);
      last = rw (get_or-drop at bs 3 0) at p.last;
    }
