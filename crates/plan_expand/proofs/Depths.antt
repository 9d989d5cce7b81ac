-- How deep selection sets stand in one another, where those of fragments that spreads enter stand in the spreads.
use Rattle.std.proofs.Common.{◌≡◌, ℕ, zero, suc, ◌+◌, ◌-◌, ◌<◌, ◌≤◌, List, [], ◌∷◌, length, get_or, Option, Some, None, ap, sym, ◌∙◌, arith}
use Rattle.std.specs.Prelude.{max}
use Rattle.plan_ir.specs.gql_ast.SelectionView.{sel_before, sel_of, sels_of}
use Rattle.plan_ir.specs.gql_ast.Sels as sels
use Rattle.plan_ir.specs.gql_ast.Sels.{Sels}
use Rattle.plan_ir.specs.gql_ast.declared.selection.Selection.{Selection}
use Rattle.plan_ir.specs.gql_ast.declared.selection.Selection.TheVariants as S
use Rattle.plan_ir.specs.schema_tables.Types.{Text}

-- `enter` gives the depth of what a spread enters
abbrev pub depth_with : (enter : Text → ℕ) → Sels → ℕ
depth_with enter sels.end = 0
depth_with enter (sels.field a n xs ds s rest) = max (depth_with enter s + 1) (depth_with enter rest)
depth_with enter (sels.spread n ds rest) = max (enter n + 1) (depth_with enter rest)
depth_with enter (sels.inline o ds s rest) = max (depth_with enter s + 1) (depth_with enter rest)

before_deep : (enter : Text → ℕ) (x : Selection) (t : Sels) → depth_with enter (sel_of x) ≤ depth_with enter (sel_before x t)
before_deep enter (S.Field a n xs ds s) t = omega arith
before_deep enter (S.Spread n ds) t = omega arith
before_deep enter (S.Inline o ds s) t = omega arith

rest_deep : (enter : Text → ℕ) (x : Selection) (t : Sels) → depth_with enter t ≤ depth_with enter (sel_before x t)
rest_deep enter (S.Field a n xs ds s) t = omega arith
rest_deep enter (S.Spread n ds) t = omega arith
rest_deep enter (S.Inline o ds s) t = omega arith

selection_deep : (enter : Text → ℕ) (xs : List Selection) (i : ℕ) (d : Selection) → i < length xs → depth_with enter (sel_of (get_or xs i d)) ≤ depth_with enter (sels_of xs)
selection_deep enter [] i d h = absurd (omega arith)
selection_deep enter (x ∷ xs) zero d h = before_deep enter x (sels_of xs)
selection_deep enter (x ∷ xs) (suc i) d h =
    let e : depth_with enter (sel_of (get_or xs i d)) ≤ depth_with enter (sels_of xs) = selection_deep enter xs i d (omega arith) in
    omega (arith, e, rest_deep enter x (sels_of xs))

-- a selection is at most as deep as the set that it stands in
pub selection_below : (enter : Text → ℕ) (xs : List Selection) (whole : Sels) (i : ℕ) (x : Selection) → i < length xs → x ≡ get_or xs i x → sels_of xs ≡ whole
    → depth_with enter (sel_of x) ≤ depth_with enter whole
selection_below enter xs whole i x h is e =
    let held : depth_with enter (sel_of (get_or xs i x)) ≤ depth_with enter (sels_of xs) = selection_deep enter xs i x h in
    omega (arith, held, ap (λ (y : Selection). depth_with enter (sel_of y)) is, ap (depth_with enter) e)

-- ---- fragments that are found by their names, each with its selections

module _ {R : Type 0} (inside : R → Sels) where
  abbrev pub found_depth : (Sels → ℕ) → Option R → ℕ
  found_depth depth None = 0
  found_depth depth (Some r) = depth (inside r)

  -- so many spreads may still be entered, one in another
  abbrev pub spread_depth : (spreads : ℕ) → (Text → Option R) → Text → ℕ
  spread_depth zero find n = 0
  spread_depth (suc k) find n = found_depth (depth_with (spread_depth k find)) (find n)

  abbrev pub walk_depth : (spreads : ℕ) → (Text → Option R) → Sels → ℕ
  walk_depth k find s = depth_with (spread_depth k find) s

  -- what a spread enters
  pub entered_deep : (k : ℕ) (find : Text → Option R) (n : Text) (r : R) → 0 < k → find n ≡ Some r → walk_depth (k - 1) find (inside r) ≡ spread_depth k find n
  entered_deep zero find n r some e = absurd (omega (arith, some))
  entered_deep (suc k) find n r some e =
      let less : suc k - 1 ≡ k = omega arith in
      ap (λ (j : ℕ). walk_depth j find (inside r)) less ∙ sym (ap (found_depth (depth_with (spread_depth k find))) e)
