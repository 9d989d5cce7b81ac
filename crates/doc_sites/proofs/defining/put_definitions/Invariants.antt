-- What is put and what is left are the whole.
use Rattle.std.proofs.Common.{◌≡◌, ◌+◌, ◌++◌, map, drop}
use Rattle.schema_types.specs.Sites.{definitions_at, definitions_nodes}
use Rattle.doc_sites.specs.SitesView.{definition_of}
use Rattle.doc_sites.proofs.defining.put_definitions.Given as goal

abbrev pub invariant-definitions : goal.invariant-definitions
invariant-definitions l =
    (map definition_of l.definitions.items ++ definitions_at l.schema l.at (drop l.definition-index l.definition-items)
    ≡ map definition_of l.initial.definitions.items ++ definitions_at l.schema l.initial.at l.document.definitions)
    × (l.at + definitions_nodes (drop l.definition-index l.definition-items) ≡ l.initial.at + definitions_nodes l.document.definitions)
