-- One more of the list.
use Rattle.std.proofs.Common.{arith, rules as common}
use Rattle.schema_trees.specs.LocatedView.{field_of}
use Rattle.schema_rules.specs.Rules as rules
use Rattle.gql_graph.proofs.LeastSteps.{each_next}
use Rattle.schema_rules.proofs.rules.names.note_repeated_arguments.Goals as goal

pub fields-preserved : goal.fields-preserved
fields-preserved c = each_next field_of (λ f. rules.repeated_names (rules.input_names f.arguments)) c.args.fields.now c.fields.field-index c.field-item.result c.fields.least.at c.note_repeated_inputs.new.least.at _ (omega arith) c.field-item.is (search common) c.fields.invariant
