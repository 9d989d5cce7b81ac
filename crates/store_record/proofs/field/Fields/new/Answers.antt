use Rattle.gql_plain.proofs.InOrder.{AreInOrder-none}
use Rattle.store_record.proofs.field.Fields.new.Goals as goal

pub invariant_of-result : goal.invariant_of-result
invariant_of-result c = rw c.new.ensures.items AreInOrder-none
