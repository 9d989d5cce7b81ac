-- What stands ready is that of the schema and the documents.
use Rattle.std.proofs.Common.{option_map, length, ap, ◌∙◌}
use Rattle.plan_ir.specs.Expansion.{operation_named}
use Rattle.plan_ir.specs.schema_types.NameRules.{fragment_named, fragments, operations}
use Rattle.plan_ir.specs.Projects.{place_in}
use Rattle.plan_expand.specs.OperationsView.{ready_operation}
use Rattle.plan_expand.specs.ReadyView.{ready_fragment}
use Rattle.plan_expand.proofs.expander.Expander.new.Goals as goal

pub returns-clause-ready : goal.returns-clause-ready
returns-clause-ready c = record {
  right = c.in_ok-adding.ensures.right;
  same_schema = c.in_ok-adding.ensures.schema;
  fragments_found = λ n. c.in_ok-fragments.ensures n ∙ (λ i. option_map (ready_fragment (place_in ((c.deref.ensures.value ∙ c.in_ok-nodes.ensures) i))) (fragment_named (fragments (c.requires i)) n));
  operations_found = λ n. c.in_ok-operations.ensures n ∙ (λ i. option_map (ready_operation c.args.schema.now (place_in ((c.deref-2.ensures.value ∙ c.in_ok-nodes.ensures) i))) (operation_named (operations (c.requires i)) n));
  all_spreads = c.in_ok-spreads.ensures ∙ ap (λ ds. length (fragments ds)) c.requires;
}
