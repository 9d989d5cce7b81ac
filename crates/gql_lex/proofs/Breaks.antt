-- The first line of a text, and the others.
use Rattle.std.proofs.Common.{◌≡◌, ℕ, suc, ◌+◌, ◌-◌, ◌<◌, ◌≤◌, Bool, true, false, cond, eqb, not, ◌&&◌, ◌||◌, List, [], ◌∷◌, ◌++◌, length, get_or, take, drop, refl, lit<, arith, sym, ap, ◌∙◌, ⊎_elim}
use Rattle.std.specs.List.{between}
use Rattle.std.proofs.lemmas.Bool.{or_parts, and_parts, eqb-true, cases_Bool, not-false}
use Rattle.std.proofs.lemmas.List.{length-drop, drop-drop, get_or-drop, take_all, map-append, append_assoc}
use Rattle.std.proofs.lemmas.List.Sums.{prefix_len-le-length, prefix_len_stops}
use Rattle.gql_lex.specs.Characters.{is_line_end}
use Rattle.gql_lex.specs.Lines.{lines, onto_first, line_len, end_len, is_in_line, is_pair, texts}
use denote.Bor.{Bor}
use Rattle.gql_lex.proofs.Extents.{or_below, same_below, stands_within}

inside : (c : ℕ) (cs : List ℕ) → is_line_end c ≡ false → lines (c ∷ cs) ≡ onto_first c (lines cs)
unfolding lines
inside c cs e = let p = or_parts (eqb c 10) (eqb c 13) e in rw (p.0, p.1) refl

len_inside : (c : ℕ) (cs : List ℕ) → is_line_end c ≡ false → line_len (c ∷ cs) ≡ suc (line_len cs)
len_inside c cs e = rw e (omega arith)

len_at_end : (c : ℕ) (cs : List ℕ) → is_line_end c ≡ true → line_len (c ∷ cs) ≡ 0
len_at_end c cs e = rw e refl

pub lines_last : (bs : List ℕ) → line_len bs ≡ length bs → lines bs ≡ bs ∷ []
unfolding lines
lines_last [] e = refl
lines_last (c ∷ cs) e = ⊎_elim
    (λ t. absurd (omega (arith, e, len_at_end c cs t)))
    (λ f. inside c cs f ∙ ap (λ ls. onto_first c ls) (lines_last cs (omega (arith, e, len_inside c cs f))))
    (cases_Bool (is_line_end c))

abbrev Breaks : List ℕ → ℕ → Type 0
Breaks bs n = lines bs ≡ take n bs ∷ lines (drop (n + end_len (drop n bs)) bs)

further_in : (c : ℕ) (cs : List ℕ) (n : ℕ) → is_line_end c ≡ false → Breaks cs n → Breaks (c ∷ cs) (suc n)
further_in c cs n f h =
    let e : suc n + end_len (drop n cs) ≡ suc (n + end_len (drop n cs)) = omega arith in
    rw e (inside c cs f ∙ ap (λ ls. onto_first c ls) h)

-- at the end of a line
pair_here : (c : ℕ) (cs : List ℕ) → c ≡ 13 → get_or cs 0 0 ≡ 10 → lines (c ∷ cs) ≡ [] ∷ lines (drop 1 cs)
unfolding lines
pair_here c [] e f = absurd (omega arith)
pair_here c (d ∷ ds) e f = rw (e, f) refl

ends_alone : (feed return next : Bool) → (feed || return) ≡ true → (return && next) ≡ false → (feed || (return && not next)) ≡ true
ends_alone true return next t f = refl
ends_alone false true true t f = cc
ends_alone false true false t f = refl
ends_alone false false next t f = cc

single_here : (c : ℕ) (cs : List ℕ) → is_line_end c ≡ true → (eqb c 13 && eqb (get_or cs 0 0) 10) ≡ false → lines (c ∷ cs) ≡ [] ∷ lines cs
unfolding lines
single_here c cs t f = rw (ends_alone (eqb c 10) (eqb c 13) (eqb (get_or cs 0 0) 10) t f) refl

here : (c : ℕ) (cs : List ℕ) → is_line_end c ≡ true → (b : Bool) → (eqb c 13 && eqb (get_or cs 0 0) 10) ≡ b → Breaks (c ∷ cs) 0
here c cs t true p =
    let q = and_parts (eqb c 13) (eqb (get_or cs 0 0) 10) p in
    rw p (pair_here c cs (eqb-true c 13 q.0) (eqb-true (get_or cs 0 0) 10 q.1))
here c cs t false p = rw (p, t) (single_here c cs t p)

pub lines_more : (bs : List ℕ) → line_len bs < length bs → Breaks bs (line_len bs)
lines_more [] l = absurd (omega arith)
lines_more (c ∷ cs) l = ⊎_elim
    (λ t. rw (len_at_end c cs t) (here c cs t (eqb c 13 && eqb (get_or cs 0 0) 10) refl))
    (λ f. rw (len_inside c cs f) (further_in c cs (line_len cs) f (lines_more cs (omega (arith, l, len_inside c cs f)))))
    (cases_Bool (is_line_end c))

-- ---- at an offset

pub end_at : (bs : List ℕ) (at n : ℕ) → n ≡ line_len (drop at bs) → at ≤ length bs → at + n ≤ length bs
end_at bs at n e l = omega (arith, prefix_len-le-length is_in_line (drop at bs), length-drop at bs)

pub last_at : (bs : List ℕ) (at n : ℕ) → n ≡ line_len (drop at bs) → at ≤ length bs → at + n ≡ length bs → lines (drop at bs) ≡ between at (at + n) bs ∷ []
last_at bs at n e l w =
    let m : at + n - at ≡ n = omega arith in
    let d : length (drop at bs) ≤ n = omega (arith, length-drop at bs) in
    let t : take n (drop at bs) ≡ drop at bs = take_all n (drop at bs) d in
    rw (m, t) (lines_last (drop at bs) (omega (arith, length-drop at bs)))

pub more_at : (bs : List ℕ) (at n : ℕ) → n ≡ line_len (drop at bs) → at + n < length bs
    → lines (drop at bs) ≡ between at (at + n) bs ∷ lines (drop (at + n + end_len (drop (at + n) bs)) bs)
more_at bs at n e l =
    let m : at + n - at ≡ n = omega arith in
    let h : Breaks (drop at bs) n = rw e (lines_more (drop at bs) (omega (arith, length-drop at bs))) in
    let d = drop-drop n at bs in
    let k : at + (n + end_len (drop (at + n) bs)) ≡ at + n + end_len (drop (at + n) bs) = omega arith in
    rw m (rw (d, drop-drop (n + end_len (drop (at + n) bs)) at bs, k) at h)

pub line_end_below : (c : ℕ) → is_line_end c ≡ true → c < 128
line_end_below c = or_below c (eqb c 10) (eqb c 13) (same_below c 10 (lit< tt)) (same_below c 13 (lit< tt))

pub stops_at : (bs : List ℕ) (at n : ℕ) → n ≡ line_len (drop at bs) → at + n < length bs → is_line_end (get_or bs (at + n) 0) ≡ true
stops_at bs at n e l =
    let s = prefix_len_stops is_in_line (drop at bs) 0 (omega (arith, length-drop at bs)) in
    let t : is_line_end (get_or (drop at bs) n 0) ≡ true = rw e (not-false (is_line_end (get_or (drop at bs) (line_len (drop at bs)) 0)) s) in
    rw (get_or-drop at bs n 0) at t

-- ---- behind the end of a line

pub record Next (bs : List ℕ) (end n : ℕ) : Type 0 where
  pub some : 0 < n
  pub within : end + n ≤ length bs
  pub last : get_or bs (end + n - 1) 0 < 128

next_pair : (bs : List ℕ) (end n : ℕ) → n ≡ 2 → is_pair (drop end bs) ≡ true → Next bs end n
next_pair bs end n e p =
    let q = rw (get_or-drop end bs 1 0) at (eqb-true (get_or (drop end bs) 1 0) 10 (and_parts (eqb (get_or (drop end bs) 0 0) 13) (eqb (get_or (drop end bs) 1 0) 10) p).1) in
    let k : end + n - 1 ≡ end + 1 = omega arith in
    record { some = omega arith; within = omega (arith, stands_within bs (end + 1) (omega (arith, q))); last = rw k (omega (arith, q)) }

next_single : (bs : List ℕ) (end n : ℕ) → n ≡ 1 → end < length bs → is_line_end (get_or bs end 0) ≡ true → Next bs end n
next_single bs end n e l t =
    let k : end + n - 1 ≡ end = omega arith in
    record { some = omega arith; within = omega arith; last = rw k (line_end_below (get_or bs end 0) t) }

next_by : (bs : List ℕ) (end n : ℕ) (b : Bool) → is_pair (drop end bs) ≡ b → n ≡ cond b 2 1 → end < length bs → is_line_end (get_or bs end 0) ≡ true → Next bs end n
next_by bs end n true p e l t = next_pair bs end n e p
next_by bs end n false p e l t = next_single bs end n e l t

pub next_at : (bs : List ℕ) (end n : ℕ) → n ≡ end_len (drop end bs) → end < length bs → is_line_end (get_or bs end 0) ≡ true → Next bs end n
next_at bs end n e l t =
    let z : end + 0 ≡ end = omega arith in
    let u : is_line_end (get_or (drop end bs) 0 0) ≡ true = rw (get_or-drop end bs 0 0, z) t in
    next_by bs end n (is_pair (drop end bs)) refl (rw u at e) l t

-- ---- a line more

pub line_pushed : (whole here rest : List (List ℕ)) (old new : List (Bor (List ℕ))) (l : Bor (List ℕ)) (text : List ℕ)
    → whole ≡ texts old ++ here → here ≡ text ∷ rest → new ≡ old ++ l ∷ [] → l.now ≡ text → whole ≡ texts new ++ rest
line_pushed whole here rest old new l text w h n t =
    rw (w, h, n, map-append (λ (x : Bor (List ℕ)). x.now) old (l ∷ []), t) (sym (append_assoc (texts old) (text ∷ []) rest))
