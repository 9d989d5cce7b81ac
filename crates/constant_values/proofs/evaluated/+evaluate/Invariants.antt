use Rattle.std.proofs.Common.{◌≡◌, map, take}
use Rattle.schema_types.specs.gql_ast.ValueView.{value_of, argument_of}
use Rattle.schema_types.specs.gql_plain.Shown.{shown_members}
use Rattle.schema_types.specs.Environments.{evaluation}
use Rattle.constant_values.proofs.evaluated.+evaluate.Given as goal

abbrev pub invariant-items_under-items : goal.invariant-items_under-items
invariant-items_under-items l = l.plains ≡ map (evaluation l.values) (map value_of (take l.item-index l.item-items))

abbrev pub invariant-fields_under-fields : goal.invariant-fields_under-fields
invariant-fields_under-fields l = shown_members l.pairs.items ≡ map (λ m. (m.0, evaluation l.values m.1)) (map argument_of (take l.field-index l.field-items))
