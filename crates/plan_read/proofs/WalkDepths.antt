-- How deep what a walk of the code looks at is.
use Rattle.std.proofs.Common.{ℕ}
use Rattle.plan_ir.specs.gql_ast.Sels.{Sels}
use Rattle.plan_read.specs.ReadyView.{find_in}
use Rattle.plan_read.specs.declared.fragments.ReadyFragment.{ReadyFragment}
use Rattle.plan_read.specs.declared.steps.Inside.{Inside}
use Rattle.plan_read.specs.declared.steps.Inside.TheVariants as I
use Rattle.plan_read.specs.declared.steps.Walk.{Walk}
use Rattle.plan_read.proofs.Depths.{walk_depth}

abbrev pub depth_in : Walk → Sels → ℕ
depth_in w s = walk_depth w.spreads (find_in w.fragments.now) s

abbrev pub fragment_depth : Walk → ReadyFragment → (spreads : ℕ) → ℕ
fragment_depth w f k = walk_depth k (find_in w.fragments.now) f.selections.now

abbrev pub inside_depth : Walk → Inside → ℕ
inside_depth w (I.Selections s) = depth_in w s.now
inside_depth w (I.Fragment n ds f k) = fragment_depth w f.now k
