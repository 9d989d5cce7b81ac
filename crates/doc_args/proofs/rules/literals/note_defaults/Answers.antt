-- One more of the list.
use Rattle.std.proofs.Common.{arith}
use Rattle.doc_uses.specs.doc_sites.SitesView.{variable_of}
use Rattle.doc_args.specs.Literals.{default_of_unfit}
use Rattle.gql_graph.proofs.LeastSteps.{each_next}
use Rattle.doc_args.proofs.rules.literals.note_defaults.Goals as goal

pub variables-preserved : goal.variables-preserved
variables-preserved c = each_next variable_of (default_of_unfit c.args.schema.now) c.args.variables.now c.variables.variable-index c.variable-item.result _ _ _ (omega arith) c.variable-item.is c.in_ok-note_default.ensures c.variables.invariant
