-- A run of bytes before the first place that stops.
use Rattle.std.proofs.Common.{◌≡◌, ℕ, ◌+◌, ◌<◌, ◌≤◌, Bool, true, false, List, ◌∷◌, length, get_or, drop, refl, arith, sym, ap, ◌∙◌}
use Rattle.std.proofs.lemmas.List.{drop_more, drop_all}
use Rattle.gql_lex.specs.Values.{run_before}

run_step : (stops : List ℕ → Bool) (c : ℕ) (cs : List ℕ) → stops (c ∷ cs) ≡ false → run_before stops (c ∷ cs) ≡ 1 + run_before stops cs
run_step stops c cs e = rw e refl

run_here : (stops : List ℕ → Bool) (c : ℕ) (cs : List ℕ) → stops (c ∷ cs) ≡ true → run_before stops (c ∷ cs) ≡ 0
run_here stops c cs e = rw e refl

-- the loop at i: the whole run, and what is left of it
pub run_more : (stops : List ℕ → Bool) (bs : List ℕ) (i : ℕ) → i < length bs → stops (drop i bs) ≡ false
    → run_before stops bs ≡ i + run_before stops (drop i bs) → run_before stops bs ≡ i + 1 + run_before stops (drop (i + 1) bs)
run_more stops bs i l e w =
    let d = drop_more bs i 0 l in
    let s = ap (λ r. run_before stops r) d ∙ run_step stops (get_or bs i 0) (drop (i + 1) bs) (rw d at e) in
    w ∙ (rw s (omega arith))

pub run_stop : (stops : List ℕ → Bool) (bs : List ℕ) (i : ℕ) → i < length bs → stops (drop i bs) ≡ true
    → run_before stops bs ≡ i + run_before stops (drop i bs) → i ≡ run_before stops bs
run_stop stops bs i l e w =
    let d = drop_more bs i 0 l in
    let s = ap (λ r. run_before stops r) d ∙ run_here stops (get_or bs i 0) (drop (i + 1) bs) (rw d at e) in
    sym (w ∙ (rw s (omega arith)))

pub run_all : (stops : List ℕ → Bool) (bs : List ℕ) (i : ℕ) → length bs ≤ i → i ≤ length bs → run_before stops bs ≡ i + run_before stops (drop i bs) → length bs ≡ run_before stops bs
run_all stops bs i h l w = let e : i + 0 ≡ length bs = omega arith in sym (w ∙ (rw (drop_all i bs h) e))
