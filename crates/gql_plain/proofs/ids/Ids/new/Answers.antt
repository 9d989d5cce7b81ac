use Rattle.gql_plain.proofs.InOrder.{AreInOrder-none}
use Rattle.gql_plain.proofs.ids.Ids.new.Goals as goal

pub invariant_of-result : goal.invariant_of-result
invariant_of-result c = AreInOrder-none
