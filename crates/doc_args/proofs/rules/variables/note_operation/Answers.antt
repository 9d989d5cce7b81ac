-- The four parts in turn.
use Rattle.std.proofs.Common.{[]}
use Rattle.doc_uses.specs.schema_types.ArgumentRules as rules
use Rattle.doc_uses.specs.schema_rules.Rules.{each, repeated_names}
use Rattle.doc_uses.specs.schema_types.Sites as spec
use Rattle.doc_uses.specs.doc_sites.SitesView.{operation_of}
use Rattle.doc_args.specs.UsesIn.{uses_in_operation, variable_names}
use Rattle.doc_args.proofs.Steps.{noted_parts}
use Rattle.doc_args.proofs.rules.variables.note_operation.Goals as goal

pub returns : goal.returns
returns c = λ fs d.
    let o : spec.OperationAt = operation_of c.args.operation.now in
    noted_parts _ _ _ _ (repeated_names (variable_names o.variables)) (each (rules.not_input c.args.schema.now) o.variables)
    (each (rules.use_wrong o.variables []) (uses_in_operation c.args.schema.now o)) (each (rules.uses_wrong_in c.args.schema.now fs o) fs)
    c.in_ok-note_repeated_variables.ensures c.note_not_input.ensures (c.in_ok-note_uses.ensures fs d)
