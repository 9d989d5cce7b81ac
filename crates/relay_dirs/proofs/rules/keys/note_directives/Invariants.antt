-- What is noted and what is left are the whole.
use Rattle.std.proofs.Common.{◌≡◌, map, drop}
use Rattle.constant_values.specs.gql_graph.Leasts.{least_from}
use Rattle.constant_values.specs.gql_graph.Rules.{each}
use Rattle.doc_uses.specs.doc_sites.SitesView.{directive_of}
use Rattle.relay_marks.specs.Connections as spec
use Rattle.relay_dirs.proofs.rules.keys.note_directives.Given as goal

abbrev pub invariant-directives : goal.invariant-directives
invariant-directives l =
    least_from l.least.at (each (spec.key_wrong l.response l.field) (map directive_of (drop l.directive-index l.directives))) ≡ least_from l.initial.least.at (each (spec.key_wrong l.response l.field) (map directive_of l.directives))
