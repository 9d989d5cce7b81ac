-- How deep selection sets stand in one another, where those of fragments that spreads enter stand in the spreads.
use Rattle.std.proofs.Common.{◌≡◌, ℕ, ◌-◌, ◌<◌, Some}
use Rattle.plan_ir.specs.gql_ast.Sels.{Sels}
use Rattle.plan_expand.proofs.Depths as depths
use Rattle.plan_expand.proofs.Depths.{depth_with}
use Rattle.plan_read.specs.Reading.{Find, Ready}
use Rattle.plan_ir.specs.schema_tables.Types.{Text}

-- so many spreads may still be entered, one in another
abbrev pub spread_depth : (spreads : ℕ) → Find → Text → ℕ
spread_depth k find n = depths.spread_depth (λ (r : Ready). r.selections) k find n

abbrev pub walk_depth : (spreads : ℕ) → Find → Sels → ℕ
walk_depth k find s = depth_with (spread_depth k find) s

-- what a spread enters
pub entered_deep : (k : ℕ) (find : Find) (n : Text) (r : Ready) → 0 < k → find n ≡ Some r → walk_depth (k - 1) find r.selections ≡ spread_depth k find n
entered_deep k find n r some e = depths.entered_deep (λ (r : Ready). r.selections) k find n r some e
