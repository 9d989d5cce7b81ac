-- The table finds what is passed.
use Rattle.std.proofs.Common.{◌≡◌, ◌≤◌, length, map, drop, option_map}
use Rattle.std.specs.BTreeMap.{get_by}
use Rattle.std.specs.Cmp.Lexicographic.{slice_cmp}
use Rattle.std.specs.Ordering.{nat_cmp}
use Rattle.doc_sites.specs.schema_types.ArgumentRules.{variable_named}
use Rattle.doc_sites.specs.gql_graph.Texts.{Text}
use Rattle.doc_sites.specs.SitesView.{variable_of}
use Rattle.doc_uses.proofs.variables.Variables.of.Given as goal

abbrev pub decreases-variables : goal.decreases-variables
decreases-variables l = l.left

abbrev pub invariant-variables : goal.invariant-variables
invariant-variables l =
    (l.left ≤ length l.operation.variables.items)
    × ((n : Text) → option_map (λ v. variable_of v.now) (get_by (λ k. slice_cmp nat_cmp n k.now) l.by_name) ≡ variable_named (map variable_of (drop l.left l.operation.variables.items)) n)
