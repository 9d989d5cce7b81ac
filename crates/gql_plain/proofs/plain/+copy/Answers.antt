use Rattle.gql_plain.proofs.Members.{AreInOrder-copied}
use Rattle.gql_plain.proofs.plain.+copy.Goals as goal

pub Pairs::copy-invariant_of-result : goal.Pairs::copy-invariant_of-result
Pairs::copy-invariant_of-result t c =
    AreInOrder-copied _ c.deref-key-items.result.now c.entries.key-index c.entries.invariant c.entries-test.false (rw c.deref-key-items.ensures.value c.self.invariant)
