-- What is put and what is left are the whole.
use Rattle.std.proofs.Common.{◌≡◌, ◌++◌, map, drop}
use Rattle.constant_values.specs.gql_graph.Rules.{each}
use Rattle.doc_uses.specs.doc_sites.SitesView.{definition_of}
use Rattle.relay_dirs.specs.Tables.{fragment_locals, pair_of}
use Rattle.relay_dirs.proofs.fragments.list_locals.Given as goal

abbrev pub invariant-definitions : goal.invariant-definitions
invariant-definitions l = map pair_of l.all.items ++ each fragment_locals (map definition_of (drop l.definition-index l.definitions)) ≡ each fragment_locals (map definition_of l.definitions)
