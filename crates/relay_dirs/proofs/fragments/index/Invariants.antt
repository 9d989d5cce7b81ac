-- The table finds what is passed.
use Rattle.std.proofs.Common.{◌≡◌, ◌≤◌, length, map, drop, option_map}
use Rattle.std.specs.BTreeMap.{get_by}
use Rattle.std.specs.Cmp.Lexicographic.{slice_cmp}
use Rattle.std.specs.Ordering.{nat_cmp}
use Rattle.constant_values.specs.gql_graph.Texts.{Text}
use Rattle.relay_marks.specs.Locals.{local_named}
use Rattle.relay_marks.specs.View.{local_view}
use Rattle.relay_dirs.proofs.fragments.index.Given as goal

abbrev pub decreases-locals : goal.decreases-locals
decreases-locals l = l.left

abbrev pub invariant-locals : goal.invariant-locals
invariant-locals l =
    (l.left ≤ length l.locals)
    × ((n : Text) → option_map (λ v. local_view v.now) (get_by (λ k. slice_cmp nat_cmp n k.now) l.by_name) ≡ local_named (map local_view (drop l.left l.locals)) n)
