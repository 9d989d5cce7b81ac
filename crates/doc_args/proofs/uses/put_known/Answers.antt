-- One more argument.
use Rattle.std.proofs.Common.{◌++◌, map, Option, ap, ◌∙◌, arith}
use Rattle.doc_uses.specs.schema_types.ArgumentRules as rules
use Rattle.doc_uses.specs.doc_sites.SitesView.{argument_of}
use Rattle.doc_uses.specs.UseView.{use_of, uses_at}
use Rattle.doc_uses.proofs.doc_sites_laws.ListSteps.{collect_next}
use Rattle.doc_args.proofs.uses.put_known.Goals as goal

pub arguments-preserved : goal.arguments-preserved
arguments-preserved c =
    collect_next argument_of (rules.uses_of_argument c.args.schema.now (rules.inputs c.args.inputs.now)) c.args.arguments.now c.arguments.argument-index c.argument-item.result _ _ _ (omega arith) c.argument-item.is
    (c.in_ok-put_argument.ensures ∙ ap (λ (p : Option rules.Place). map use_of c.arguments.uses.items ++ uses_at c.args.schema.now (argument_of c.argument-item.result) p)
    (c.place_of_input-place.ensures ∙ ap rules.place_for c.find_input.ensures)) c.arguments.invariant
