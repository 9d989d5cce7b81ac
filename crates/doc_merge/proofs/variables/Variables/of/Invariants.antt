-- The table finds what is passed.
use Rattle.std.proofs.Common.{◌≡◌, ◌≤◌, length, drop}
use Rattle.std.specs.Prelude.{option_copied}
use Rattle.std.specs.BTreeMap.{get_by}
use Rattle.std.specs.Cmp.Lexicographic.{slice_cmp}
use Rattle.std.specs.Ordering.{nat_cmp}
use Rattle.plan_ir.specs.schema_tables.Types.{Text}
use Rattle.doc_merge.specs.Values.{variable_named}
use Rattle.doc_merge.proofs.variables.Variables.of.Given as goal

abbrev pub decreases-variables : goal.decreases-variables
decreases-variables l = l.left

abbrev pub invariant-variables : goal.invariant-variables
invariant-variables l =
    (l.left ≤ length l.items)
    × ((n : Text) → option_copied (get_by (λ k. slice_cmp nat_cmp n k.now) l.by_name) ≡ variable_named (drop l.left l.items) n)
