-- The pairs so far stand under marked names.
use Rattle.std.proofs.Common.{◌≡◌, map, take}
use Rattle.plan_ir.specs.gql_plain.Shown.{shown_members}
use Rattle.line_engine.proofs.environments.marked_pairs.Given as goal
use Rattle.line_engine.specs.Marked.{marked}

abbrev pub invariant-pairs : goal.invariant-pairs
invariant-pairs l = shown_members l.copies.items ≡ map marked (shown_members (take l.name-index l.name-items))
