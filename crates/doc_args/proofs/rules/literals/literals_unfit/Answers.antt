-- One more of the list.
use Rattle.std.proofs.Common.{arith}
use Rattle.doc_uses.specs.doc_sites.SitesView.{definition_of}
use Rattle.doc_args.specs.Literals.{unfit_in}
use Rattle.gql_graph.proofs.LeastSteps.{each_next}
use Rattle.doc_args.proofs.rules.literals.literals_unfit.Goals as goal

pub definitions-preserved : goal.definitions-preserved
definitions-preserved c = each_next definition_of (unfit_in c.args.schema.now) c.args.definitions.now c.definitions.definition-index c.definition-item.result _ _ _ (omega arith) c.definition-item.is c.in_ok-note_unfit_in.ensures c.definitions.invariant
