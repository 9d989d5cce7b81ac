-- One more of the list.
use Rattle.std.proofs.Common.{Bool, not, get_or, ap, ◌∙◌, arith}
use Rattle.doc_sites.specs.gql_graph.Leasts.{least_from}
use Rattle.doc_sites.specs.schema_trees.LocatedView.{name_of}
use Rattle.doc_sites.specs.schema_types.NameRules.{not_there}
use Rattle.doc_sites.specs.gql_graph.Rules.{wrong}
use Rattle.doc_names.proofs.NameSteps.{no_name, noted_at}
use Rattle.doc_names.proofs.rules.spreads.note_not_there.Goals as goal

pub spreads-preserved : goal.spreads-preserved
spreads-preserved c = λ ns k.
    noted_at name_of (not_there ns) c.args.spreads.now c.spreads.spread-index no_name _ _ _ (omega arith)
    (c.note_if.ensures ∙ ap (λ (b : Bool). least_from c.spreads.least.at (wrong (not b) (get_or c.args.spreads.now c.spreads.spread-index no_name).at)) (c.contains.ensures ns k)) (c.spreads.invariant ns k)
