-- One more of the list.
use Rattle.std.proofs.Common.{arith, rules as common}
use Rattle.doc_uses.specs.schema_types.ArgumentRules as rules
use Rattle.doc_uses.specs.doc_sites.SitesView.{variable_of}
use Rattle.doc_args.proofs.Steps.{each_next_mapped}
use Rattle.doc_args.proofs.rules.directives.note_variables.Goals as goal

pub variables-preserved : goal.variables-preserved
variables-preserved c = each_next_mapped variable_of rules.directed_variable (rules.directed_wrong c.args.schema.now) c.args.variables.now c.variables.variable-index c.variable-item.result _ _ _ (omega arith) c.variable-item.is (search common) c.variables.invariant
