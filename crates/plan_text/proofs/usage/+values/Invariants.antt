-- What is noted, and what is used in what is left, is what is used in the whole.
use Rattle.std.proofs.Common.{◌≡◌, ◌||◌, map, drop}
use Rattle.plan_ir.specs.gql_ast.Value.{vals_of}
use Rattle.plan_ir.specs.gql_ast.ValueView.{argument_of, value_of}
use Rattle.plan_ir.specs.OperationText.{arguments_use, values_use}
use Rattle.plan_text.proofs.usage.+values.Given as goal
use Rattle.plan_text.specs.UsedNames.{has_name}
use Rattle.plan_ir.specs.schema_tables.Types.{Text}

abbrev pub invariant-note_arguments-items : goal.invariant-note_arguments-items
invariant-note_arguments-items l = (n : Text)
    → (has_name l.names n || arguments_use n (map argument_of (drop l.argument-index l.argument-items)))
    ≡ (has_name l.initial.names n || arguments_use n (map argument_of l.argument-items))

abbrev pub invariant-note_values-items : goal.invariant-note_values-items
invariant-note_values-items l = (n : Text)
    → (has_name l.names n || values_use n (vals_of (map value_of (drop l.value-index l.value-items))))
    ≡ (has_name l.initial.names n || values_use n (vals_of (map value_of l.value-items)))
