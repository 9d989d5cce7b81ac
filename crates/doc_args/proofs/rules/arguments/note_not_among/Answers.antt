-- One more of the list.
use Rattle.std.proofs.Common.{[], get_or, arith}
use Rattle.doc_uses.specs.schema_types.ArgumentRules as rules
use Rattle.doc_uses.specs.schema_trees.LocatedView.{name_of}
use Rattle.doc_uses.specs.schema_trees.declared.located.NameAt.{NameAt}
use Rattle.doc_uses.proofs.schema_rules_laws.FoundAt.{get_or_own}
use Rattle.gql_graph.proofs.LeastSteps.{each_next}
use Rattle.doc_uses.proofs.Steps.{noted_if_not}
use Rattle.doc_args.proofs.rules.arguments.note_not_among.Goals as goal

none : NameAt
none = record { name = record { ref_ptr = (0, 0); now = [] }; at = 0 }

pub names-preserved : goal.names-preserved
unfolding none
names-preserved c =
    each_next name_of (rules.not_taken (rules.inputs c.args.inputs.now)) c.args.names.now c.names.name-index (get_or c.args.names.now c.names.name-index none) _ _ _ (omega arith)
    (get_or_own c.args.names.now c.names.name-index none (omega arith))
    (noted_if_not _ _ c.has_input.result _ _ c.note_if.ensures c.has_input.ensures) c.names.invariant
