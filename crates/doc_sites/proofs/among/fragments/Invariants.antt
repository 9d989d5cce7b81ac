-- What is collected and what is left are the whole.
use Rattle.std.proofs.Common.{◌≡◌, ◌++◌, map, drop}
use Rattle.schema_types.specs.NameRules as rules
use Rattle.doc_sites.specs.SitesView.{definition_of, fragments_of}
use Rattle.doc_sites.proofs.among.fragments.Given as goal

abbrev pub invariant-definitions : goal.invariant-definitions
invariant-definitions l =
    fragments_of l.fragments.items ++ rules.fragments (map definition_of (drop l.definition-index l.definitions)) ≡ rules.fragments (map definition_of l.definitions)
