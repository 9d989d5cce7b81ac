use Rattle.gql_plain.proofs.Members.{AreInOrder-push_pair}
use Rattle.gql_plain.proofs.plain.Pairs.push.Goals as goal

pub invariant_of-self-2 : goal.invariant_of-self-2
invariant_of-self-2 c = rw c.in_ok-push.ensures.items (AreInOrder-push_pair _ _ _ c.self.invariant (rw c.self.view_is c.requires))
