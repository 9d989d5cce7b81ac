-- What is noted and what is left are the whole.
use Rattle.std.proofs.Common.{◌≡◌, List, map, drop}
use Rattle.constant_values.specs.gql_graph.Leasts.{least_from}
use Rattle.constant_values.specs.gql_graph.Rules.{each}
use Rattle.constant_values.specs.schema_types.Sites.{FragmentAt}
use Rattle.doc_uses.specs.doc_sites.Definitions.{on_operation}
use Rattle.doc_uses.specs.doc_sites.SitesView.{definition_of}
use Rattle.doc_uses.specs.FragmentUses.{Describes}
use Rattle.relay_rules.specs.Spreads.{uses_in_fragment, uses_of_operation_wrong}
use Rattle.relay_dirs.specs.Tables.{Suits}
use Rattle.relay_dirs.proofs.rules.variable_uses.note_definitions.Given as goal

abbrev pub invariant-definitions : goal.invariant-definitions
invariant-definitions l = (fs : List FragmentAt) → Suits l.table fs → Describes l.known (uses_in_fragment l.schema fs) fs
    → least_from l.least.at (each (on_operation (uses_of_operation_wrong l.schema fs)) (map definition_of (drop l.definition-index l.definitions)))
    ≡ least_from l.initial.least.at (each (on_operation (uses_of_operation_wrong l.schema fs)) (map definition_of l.definitions))
