-- One byte more of a text: how many lines end, and where the last one begins.
use Rattle.std.proofs.Common.{◌≡◌, ℕ, zero, suc, ◌+◌, ◌<◌, ◌≤◌, Bool, true, false, cond, not, ◌&&◌, ltb, eqb, List, [], ◌∷◌, length, get_or, drop, refl, arith, ap, inl, inr, add-one}
use Rattle.std.proofs.lemmas.Bool.{lt-ltb, or_cases, and_parts, eqb-true}
use Rattle.gql_lex.specs.Lines.{ends_line, ended_lines, line_start}

at_most : (b : Bool) (m n : ℕ) → m ≤ n → cond b 1 0 + m ≤ suc n
at_most true m n h = omega arith
at_most false m n h = omega arith

pub ended_lines-le : (n : ℕ) (bs : List ℕ) → ended_lines n bs ≤ n
unfolding ended_lines
ended_lines-le zero bs = omega arith
ended_lines-le (suc n) [] = omega arith
ended_lines-le (suc n) (c ∷ cs) = at_most (ends_line c cs) (ended_lines n cs) n (ended_lines-le n cs)

ended_lines-suc : (i : ℕ) (bs : List ℕ) → i < length bs → ended_lines (suc i) bs ≡ cond (ends_line (get_or bs i 0) (drop (suc i) bs)) 1 0 + ended_lines i bs
unfolding ended_lines
ended_lines-suc i [] h = absurd (omega arith)
ended_lines-suc zero (c ∷ cs) h = refl
ended_lines-suc (suc i) (c ∷ cs) h =
    let e : ended_lines (suc i) cs ≡ cond (ends_line (get_or cs i 0) (drop (suc i) cs)) 1 0 + ended_lines i cs = ended_lines-suc i cs (omega arith) in
    rw e (omega arith)

first : (b : Bool) → cond (ltb 0 (cond b 1 0 + 0)) (1 + 0) 0 ≡ cond b 1 0
first true = refl
first false = refl

later : (b : Bool) (m n i s t : ℕ) → m ≡ cond b 1 0 + n → s ≡ cond b (suc i) t → cond (ltb 0 m) (1 + s) 0 ≡ cond b (suc (suc i)) (cond (ltb 0 n) (1 + t) 0)
later true m n i s t e d = rw (e, d, lt-ltb 0 (1 + n) (omega arith)) (omega arith)
later false m n i s t e d = rw d (ap (λ k. cond (ltb 0 k) (1 + t) 0) (let p : m ≡ n = omega arith in p))

line_start-suc : (i : ℕ) (bs : List ℕ) → i < length bs → line_start (suc i) bs ≡ cond (ends_line (get_or bs i 0) (drop (suc i) bs)) (suc i) (line_start i bs)
unfolding line_start ended_lines
line_start-suc i [] h = absurd (omega arith)
line_start-suc zero (c ∷ cs) h = first (ends_line c cs)
line_start-suc (suc i) (c ∷ cs) h =
    later (ends_line (get_or cs i 0) (drop (suc i) cs)) _ _ i _ _ (ended_lines-suc (suc i) (c ∷ cs) h) (line_start-suc i cs (omega arith))

-- a line ends with the byte at i, or none does
pub record Turns (bs : List ℕ) (i n s : ℕ) : Type 0 where
  pub ends : ended_lines (i + 1) bs ≡ n
  pub start : line_start (i + 1) bs ≡ s

pub turns_yes : (bs : List ℕ) (i : ℕ) → i < length bs → ends_line (get_or bs i 0) (drop (i + 1) bs) ≡ true → Turns bs i (1 + ended_lines i bs) (i + 1)
turns_yes bs i h e =
    let d : ends_line (get_or bs i 0) (drop (suc i) bs) ≡ true = rw add-one at e in
    record { ends = rw (add-one, ended_lines-suc i bs h, d) refl; start = rw (add-one, line_start-suc i bs h, d) refl }

pub turns_no : (bs : List ℕ) (i : ℕ) → i < length bs → ends_line (get_or bs i 0) (drop (i + 1) bs) ≡ false → Turns bs i (ended_lines i bs) (line_start i bs)
turns_no bs i h e =
    let d : ends_line (get_or bs i 0) (drop (suc i) bs) ≡ false = rw add-one at e in
    record { ends = rw (add-one, ended_lines-suc i bs h, d) (omega arith); start = rw (add-one, line_start-suc i bs h, d) refl }

-- what ends a line is ASCII
pub ends_line-ascii : (c : ℕ) (cs : List ℕ) → ends_line c cs ≡ true → c < 128
ends_line-ascii c cs h = elim (or_cases (eqb c 10) (eqb c 13 && not (eqb (get_or cs 0 0) 10)) h) [
  | inl e ↦ omega (arith, eqb-true c 10 e)
  | inr e ↦ omega (arith, eqb-true c 13 (and_parts (eqb c 13) (not (eqb (get_or cs 0 0) 10)) e).0)
]
