-- One more of the list.
use Rattle.std.proofs.Common.{arith}
use Rattle.schema_trees.specs.LocatedView.{def_of}
use Rattle.schema_rules.specs.Rules as rules
use Rattle.gql_graph.proofs.LeastSteps.{each_next}
use Rattle.schema_rules.proofs.rules.names.names_reserved.Goals as goal

pub definitions-preserved : goal.definitions-preserved
definitions-preserved c = each_next def_of (λ d. rules.each rules.reserved_name (rules.defined_names d)) c.args.definitions.now c.definitions.definition-index c.definition-item.result _ _ _ (omega arith) c.definition-item.is c.in_ok-note_reserved_in.ensures c.definitions.invariant
