-- The pairs so far stand behind what was there.
use Rattle.std.proofs.Common.{◌≡◌, ◌++◌, take}
use Rattle.plan_ir.specs.gql_plain.Shown.{shown_members}
use Rattle.line_engine.proofs.environments.push_copies.Given as goal

abbrev pub invariant-pairs : goal.invariant-pairs
invariant-pairs l = shown_members l.copies.items ≡ shown_members l.initial.copies.items ++ shown_members (take l.name-index l.pairs)
