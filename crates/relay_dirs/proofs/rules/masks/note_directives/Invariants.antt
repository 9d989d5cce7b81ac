-- What is noted and what is left are the whole.
use Rattle.std.proofs.Common.{◌≡◌, map, drop}
use Rattle.constant_values.specs.gql_graph.Leasts.{least_from}
use Rattle.constant_values.specs.gql_graph.Rules.{each}
use Rattle.doc_uses.specs.doc_sites.SitesView.{directive_of}
use Rattle.relay_rules.specs.RelayRules as rules
use Rattle.relay_dirs.proofs.rules.masks.note_directives.Given as goal

abbrev pub invariant-directives : goal.invariant-directives
invariant-directives l =
    least_from l.least.at (each (rules.mask_wrong) (map directive_of (drop l.directive-index l.directives))) ≡ least_from l.initial.least.at (each (rules.mask_wrong) (map directive_of l.directives))
