-- No root so far is that of queries.
use Rattle.std.proofs.Common.{◌≡◌, map, drop}
use Rattle.schema_trees.specs.LocatedView.{root_of}
use Rattle.schema_rules.specs.Rules as rules
use Rattle.schema_rules.proofs.rules.roots.gives_query.Given as goal

abbrev pub invariant-roots : goal.invariant-roots
invariant-roots l = rules.gives_query (map root_of (drop l.root-index l.roots)) ≡ rules.gives_query (map root_of l.roots)
