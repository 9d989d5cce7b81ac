use Rattle.gql_ast.proofs.gql_plain_laws.InOrder.{AreInOrder-none}
use Rattle.std.proofs.Common.{refl}
use Rattle.schema_tables.proofs.definitions.TypeFields.none.Goals as goal

pub invariant_of-result : goal.invariant_of-result
invariant_of-result c = record { in_order = AreInOrder-none; finds = λ n. refl }
