-- What is collected and what is left are the whole.
use Rattle.std.proofs.Common.{◌≡◌, ◌++◌, map, drop}
use Rattle.doc_sites.specs.SitesView.{definition_of}
use Rattle.doc_sites.specs.schema_trees.LocatedView.{name_of}
use Rattle.doc_sites.specs.schema_types.NameRules as names
use Rattle.doc_names.proofs.named.fragment_names.Given as goal

abbrev pub invariant-definitions : goal.invariant-definitions
invariant-definitions l = map name_of l.names.items ++ names.fragment_names (map definition_of (drop l.definition-index l.definitions)) ≡ names.fragment_names (map definition_of l.definitions)
