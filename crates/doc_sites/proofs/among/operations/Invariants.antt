-- What is collected and what is left are the whole.
use Rattle.std.proofs.Common.{◌≡◌, ◌++◌, map, drop}
use Rattle.schema_types.specs.NameRules as rules
use Rattle.doc_sites.specs.SitesView.{definition_of, operations_of}
use Rattle.doc_sites.proofs.among.operations.Given as goal

abbrev pub invariant-definitions : goal.invariant-definitions
invariant-definitions l =
    operations_of l.operations.items ++ rules.operations (map definition_of (drop l.definition-index l.definitions)) ≡ rules.operations (map definition_of l.definitions)
