-- What is looked for stands in what is left.
use Rattle.std.proofs.Common.{◌≡◌, drop}
use Rattle.plan_ir.specs.gql_ast.SelectionView.{sels_of}
use Rattle.plan_ir.specs.Additions.{has_bare}
use Rattle.plan_expand.proofs.additions.has_bare.Given as goal

abbrev pub invariant-selections : goal.invariant-selections
invariant-selections l =
    (sels_of l.selection-items ≡ l.selections)
    × (has_bare l.name l.selections ≡ has_bare l.name (sels_of (drop l.selection-index l.selection-items)))
