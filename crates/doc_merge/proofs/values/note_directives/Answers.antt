-- One more directive.
use Rattle.std.proofs.Common.{List, Option, ap, ◌∙◌, arith}
use Rattle.plan_ir.specs.schema_tables.Views.{InputDef}
use Rattle.doc_merge.specs.Places.{least_from}
use Rattle.doc_merge.specs.Values.{arguments_unfit, directive_inputs}
use Rattle.doc_merge.proofs.ValueSteps.{directive_next}
use Rattle.doc_merge.proofs.values.note_directives.Goals as goal

pub directives-preserved : goal.directives-preserved
directives-preserved c =
    directive_next c.args.schema.now c.args.variables.now.defined.now c.args.place _ c.directives.directive-index c.directive-item.result _ _ _ (omega arith) c.directive-item.is
    (c.in_ok-note_arguments.ensures
    ∙ ap (λ (is : Option (List InputDef)). least_from c.directives.least.at (arguments_unfit c.args.schema.now c.args.variables.now.defined.now is c.args.place c.directive-item.result.arguments)) (c.directive_inputs-inputs.ensures ∙ ap (directive_inputs c.args.schema.now) c.as_str.ensures))
    c.directives.invariant
