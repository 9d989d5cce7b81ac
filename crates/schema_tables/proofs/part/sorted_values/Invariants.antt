use Rattle.std.proofs.Common.{◌≡◌, map, take}
use Rattle.gql_ast.specs.declared.member.EnumValue.{EnumValue}
use Rattle.schema_tables.proofs.part.sorted_values.Given as goal

abbrev pub invariant-values : goal.invariant-values
invariant-values l = l.words.items ≡ map (λ (v : EnumValue). v.name) (take l.value-index l.values)
