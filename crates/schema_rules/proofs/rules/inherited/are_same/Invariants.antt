-- Where those that are left are the same, all are.
use Rattle.std.proofs.Common.{◌≡◌, map, drop, length}
use Rattle.schema_trees.specs.LocatedView.{name_of}
use Rattle.schema_rules.specs.Rules as rules
use Rattle.schema_rules.proofs.rules.inherited.are_same.Given as goal

abbrev pub invariant-names : goal.invariant-names
invariant-names l =
    (l.at ≡ l.name-index) × (length l.names ≡ length l.others)
    × (rules.names_of (map name_of (drop l.name-index l.names)) ≡ drop l.name-index l.others → rules.names_of (map name_of l.names) ≡ l.others)
