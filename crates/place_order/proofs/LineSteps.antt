-- The place of a later offset in a text is no earlier.
use Rattle.std.proofs.Common.{◌≡◌, ◌⊎◌, ◌<◌, ◌≤◌, ◌+◌, ◌-◌, ℕ, zero, suc, List, length, get_or, drop, chars, IsCharBoundary, refl, sym, ◌∙◌, subst, inl, inr, arith, ⊎_elim}
use Rattle.std.specs.Prelude.{IsUtf8}
use Rattle.std.specs.List.{between}
use Rattle.std.proofs.lemmas.Bool.{cases_Bool}
use Rattle.std.proofs.lemmas.Str.{IsCharBoundary-after_ascii, IsCharBoundary-start}
use Rattle.plan_ir.proofs.gql_lex_laws.Counting.{chars_cut}
use Rattle.plan_ir.proofs.gql_lex_laws.Ends.{Turns, ends_line-ascii, turns_no, turns_yes}
use Rattle.plan_ir.specs.gql_lex.Lines.{ended_lines, ends_line, line_start}

-- how many lines ended, and where the last one began, after some bytes more
data Comes (text : List ℕ) (i j : ℕ) : Type 0 where
  further : ended_lines i text < ended_lines j text → Comes text i j
  along : ended_lines j text ≡ ended_lines i text → line_start j text ≡ line_start i text → Comes text i j

stepped : (text : List ℕ) (i j : ℕ) → Comes text i j → (n s : ℕ) → Turns text j n s → (n ≡ 1 + ended_lines j text) ⊎ ((n ≡ ended_lines j text) × (s ≡ line_start j text)) → Comes text i (j + 1)
stepped text i j (further h) n s t (inl e) = further (omega (arith, h, t.ends, e))
stepped text i j (further h) n s t (inr e) = further (omega (arith, h, t.ends, e.0))
stepped text i j (along h k) n s t (inl e) = further (omega (arith, h, t.ends, e))
stepped text i j (along h k) n s t (inr e) = along (t.ends ∙ e.0 ∙ h) (t.start ∙ e.1 ∙ k)

one_more : (text : List ℕ) (i j : ℕ) → j < length text → Comes text i j → Comes text i (j + 1)
one_more text i j h c = ⊎_elim
    (λ e. stepped text i j c (1 + ended_lines j text) (j + 1) (turns_yes text j h e) (inl refl))
    (λ e. stepped text i j c (ended_lines j text) (line_start j text) (turns_no text j h e) (inr (refl, refl)))
    (cases_Bool (ends_line (get_or text j 0) (drop (j + 1) text)))

comes : (text : List ℕ) (i n : ℕ) → i + n ≤ length text → Comes text i (i + n)
comes text i zero h = let e : i + zero ≡ i = omega arith in subst (Comes text i) (sym e) (along refl refl)
comes text i (suc n) h =
    let e : i + n + 1 ≡ i + suc n = omega arith in
    subst (Comes text i) e (one_more text i (i + n) (omega (arith, h)) (comes text i n (omega (arith, h))))

-- the line begins at a character
record Begins (text : List ℕ) (i : ℕ) : Type 0 where
  boundary : IsCharBoundary text (line_start i text)
  behind : line_start i text ≤ i

begun : (text : List ℕ) (i s : ℕ) → line_start i text ≡ s → IsCharBoundary text s → s ≤ i → Begins text i
begun text i s e b h = record { boundary = subst (IsCharBoundary text) (sym e) b; behind = omega (arith, e, h) }

begins : (text : List ℕ) → IsUtf8 text → (i : ℕ) → i ≤ length text → Begins text i
unfolding line_start
begins text u zero h = record { boundary = IsCharBoundary-start text u; behind = omega arith }
begins text u (suc i) h =
    let e : i + 1 ≡ suc i = omega arith in
    let before = begins text u i (omega (arith, h)) in
    subst (Begins text) e (⊎_elim
    (λ t. begun text (i + 1) (i + 1) (turns_yes text i (omega (arith, h)) t).start
    (IsCharBoundary-after_ascii text i u (omega (arith, h)) (ends_line-ascii (get_or text i 0) (drop (i + 1) text) t)) (omega arith))
    (λ f. begun text (i + 1) (line_start i text) (turns_no text i (omega (arith, h)) f).start before.boundary (omega (arith, before.behind)))
    (cases_Bool (ends_line (get_or text i 0) (drop (i + 1) text))))

-- an offset at a character of a text, and a later one
pub record Offsets (text : List ℕ) (i j : ℕ) : Type 0 where
  pub order : i ≤ j
  pub within : j ≤ length text
  pub earlier : IsCharBoundary text i

abbrev pub column_of : List ℕ → ℕ → ℕ
column_of text i = length (chars (between (line_start i text) i text))

-- on one line
columns : (text : List ℕ) → IsUtf8 text → (i j : ℕ) → Offsets text i j → line_start j text ≡ line_start i text → column_of text i ≤ column_of text j
columns text u i j o e =
    let b = begins text u i (omega (arith, o.order, o.within)) in
    let cut = chars_cut text (line_start i text) i j u b.behind o.order b.boundary o.earlier in
    subst (λ s. column_of text i ≤ length (chars (between s j text))) (sym e) (omega (arith, cut))

compared : (text : List ℕ) → IsUtf8 text → (i j : ℕ) → Offsets text i j → Comes text i j
    → (1 + ended_lines i text < 1 + ended_lines j text) ⊎ ((1 + ended_lines i text ≡ 1 + ended_lines j text) × (1 + column_of text i ≤ 1 + column_of text j))
compared text u i j o (further h) = inl (omega (arith, h))
compared text u i j o (along h k) = inr (omega (arith, h), (let c = columns text u i j o k in omega (arith, c)))

pub placed : (text : List ℕ) → IsUtf8 text → (i j : ℕ) → Offsets text i j
    → (1 + ended_lines i text < 1 + ended_lines j text) ⊎ ((1 + ended_lines i text ≡ 1 + ended_lines j text) × (1 + column_of text i ≤ 1 + column_of text j))
placed text u i j o =
    let e : i + (j - i) ≡ j = omega (arith, o.order) in
    compared text u i j o (subst (Comes text i) e (comes text i (j - i) (omega (arith, e, o.within))))
