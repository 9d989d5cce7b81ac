-- One more of the list.
use Rattle.std.proofs.Common.{Option, ap, ◌∙◌, arith}
use Rattle.doc_uses.specs.gql_ast.ValueView.{value_of}
use Rattle.doc_uses.specs.schema_types.ArgumentRules as rules
use Rattle.doc_uses.specs.schema_tables.Views.{InputDef}
use Rattle.doc_uses.specs.doc_sites.SitesView.{argument_of}
use Rattle.gql_graph.proofs.LeastSteps.{each_next}
use Rattle.doc_uses.proofs.Steps.{noted_if_not}
use Rattle.doc_args.proofs.rules.literals.note_unfit_for.Goals as goal

pub arguments-preserved : goal.arguments-preserved
arguments-preserved c = each_next argument_of (rules.argument_unfit c.args.schema.now (rules.inputs c.args.inputs.now)) c.args.arguments.now c.arguments.argument-index c.argument-item.result _ _ _ (omega arith) c.argument-item.is
    (noted_if_not _ _ c.in_ok-is_good.is_good _ _ c.note_if.ensures (c.in_ok-is_good.ensures ∙ ap (λ (i : Option InputDef). rules.is_good_for c.args.schema.now i (value_of c.argument-item.result.value.of.now)) c.find_input-input.ensures)) c.arguments.invariant
