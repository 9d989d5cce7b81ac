-- Cells that are looked through for one pattern.
use Rattle.std.proofs.Common.{◌≡◌, ℕ, suc, ◌+◌, ◌<◌, true, cond, List, ◌∷◌, ◌++◌, map, take, drop, length, get_or, set, ap, sym, ◌∙◌, arith}
use Rattle.std.proofs.lemmas.List.{get_or_default, map-append, set_split}
use Rattle.doc_merge.proofs.NoteSteps.{drop_next}
use Rattle.doc_merge.specs.Cells.{Cell, Mark, put, with_mark}
use Rattle.doc_merge.specs.CellView.{cell_of}
use Rattle.doc_merge.specs.Joined.{same_pattern}
use Rattle.doc_merge.specs.declared.cells.Cell as code

-- the cells so far have other patterns
abbrev pub Passed : List code.Cell → Mark → ℕ → Type 0
Passed xs m i = put (map cell_of xs) m ≡ map cell_of (take i xs) ++ put (map cell_of (drop i xs)) m

set_here : (xs : List code.Cell) (i : ℕ) (x : code.Cell) → i < length xs → map cell_of (set xs i x) ≡ map cell_of (take i xs) ++ cell_of x ∷ map cell_of (drop (i + 1) xs)
set_here xs i x h =
    let one : suc i ≡ i + 1 = omega arith in
    ap (map cell_of) (set_split xs i x h ∙ ap (λ n. take i xs ++ x ∷ drop n xs) one) ∙ map-append cell_of (take i xs) (x ∷ drop (i + 1) xs)

pub put_here : (xs : List code.Cell) (m : Mark) (i : ℕ) (x new : code.Cell) → i < length xs → x ≡ get_or xs i x → same_pattern (cell_of x).pattern m.pattern ≡ true → cell_of new ≡ with_mark (cell_of x) m
    → Passed xs m i → map cell_of (set xs i new) ≡ put (map cell_of xs) m
put_here xs m i x new h e s n p =
    set_here xs i new h ∙ ap (λ (c : Cell). map cell_of (take i xs) ++ c ∷ map cell_of (drop (i + 1) xs)) n
    ∙ sym (ap (λ b. map cell_of (take i xs) ++ cond b (with_mark (cell_of x) m ∷ map cell_of (drop (i + 1) xs)) (cell_of x ∷ put (map cell_of (drop (i + 1) xs)) m)) s)
    ∙ sym (ap (λ (ys : List code.Cell). map cell_of (take i xs) ++ put (map cell_of ys) m) (drop_next xs i x h e)) ∙ sym p

-- what is read at one place is one cell
pub same_cell : (xs : List code.Cell) (i : ℕ) (x y : code.Cell) → i < length xs → x ≡ get_or xs i x → y ≡ get_or xs i y → x ≡ y
same_cell xs i x y h e f = e ∙ get_or_default xs i x y h ∙ sym f
