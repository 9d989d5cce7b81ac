-- One more definition, and all of them.
use Rattle.std.proofs.Common.{map, option_map, refl, ap, arith}
use Rattle.std.specs.Option.{option_or}
use Rattle.plan_expand.specs.doc_sites.SitesView.{definition_of}
use Rattle.plan_ir.specs.Expansion.{operation_named}
use Rattle.plan_read.specs.OperationsView.{operation_in, ready_operation}
use Rattle.plan_ir.specs.schema_types.NameRules.{operations}
use Rattle.plan_read.proofs.Tables.{operation_before, or_end, or_next}
use Rattle.plan_read.proofs.operations.Operations.of.Goals as goal

pub definitions-init : goal.definitions-init
definitions-init c = λ n.
    ap (λ r. option_or r (option_map ready_operation (operation_named (operations (map definition_of c.args.definitions.now)) n))) (c.new-operations.ensures n)

pub definitions-preserved : goal.definitions-preserved
definitions-preserved c = λ n.
    or_next (λ ds. option_map ready_operation (operation_named (operations (map definition_of ds)) n)) (λ d. operation_in (definition_of d) n)
    (operation_before n) c.args.definitions.now c.definitions.definition-index c.definition-item.result _ _ _ (omega arith) c.definition-item.is
    (c.in_ok-put_definition.ensures n) (c.definitions.invariant n)

pub returns : goal.returns
returns c = λ n.
    or_end (λ ds. option_map ready_operation (operation_named (operations (map definition_of ds)) n)) refl c.args.definitions.now c.definitions.definition-index _ _ (omega arith)
    (c.definitions.invariant n)
