-- If those that are left are not before the least place, none is.
use Rattle.std.proofs.Common.{map, drop}
use Rattle.std.specs.List.{AllByRecursion}
use Rattle.schema_trees.specs.LocatedView.{input_of}
use Rattle.schema_rules.proofs.SettledSteps.{IsLater}
use Rattle.schema_rules.proofs.rules.fields.are_settled.Given as goal

abbrev pub invariant-arguments : goal.invariant-arguments
invariant-arguments l = AllByRecursion (IsLater l.least.at) (map input_of (drop l.argument-index l.arguments)) → AllByRecursion (IsLater l.least.at) (map input_of l.arguments)
