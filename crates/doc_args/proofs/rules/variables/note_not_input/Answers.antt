-- One more of the list.
use Rattle.std.proofs.Common.{List, length, get_or, ap, ◌∙◌, arith}
use Rattle.doc_uses.specs.schema_types.ArgumentRules as rules
use Rattle.gql_graph.proofs.LeastSteps.{each_next}
use Rattle.doc_uses.specs.doc_sites.SitesView.{variable_of}
use Rattle.doc_uses.specs.doc_sites.declared.site.VariableAt.{VariableAt}
use Rattle.doc_uses.proofs.Steps.{noted_if_not}
use Rattle.doc_args.proofs.rules.variables.note_not_input.Goals as goal

pub variables-preserved : goal.variables-preserved
variables-preserved c =
    each_next variable_of (rules.not_input c.args.schema.now) c.args.operation.now.variables.items c.variables.variable-index c.variable-item.result _ _ _ (omega (arith, ap length c.deref-variable-items.ensures.value))
    (c.variable-item.is ∙ ap (λ (vs : List VariableAt). get_or vs c.variables.variable-index c.variable-item.result) c.deref-variable-items.ensures.value)
    (noted_if_not _ _ c.is_input_type.result _ _ c.note_if.ensures c.is_input_type.ensures) c.variables.invariant
