-- None in the set is such, and none that is left.
use Rattle.std.proofs.Common.{◌≡◌, Bool, false, drop}
use Rattle.std.specs.List.{list_any}
use Rattle.gql_graph.specs.Texts.{Text}
use Rattle.schema_rules.specs.Inherited.{HasNone}
use Rattle.schema_rules.proofs.rules.inherited.put_all.Given as goal

abbrev pub invariant-names : goal.invariant-names
invariant-names l =
    ((such : Text → Bool) → HasNone l.initial.seen.names such → list_any such l.names ≡ false → HasNone l.seen.names such)
    × ((such : Text → Bool) → list_any such l.names ≡ false → list_any such (drop l.name-index l.names) ≡ false)
