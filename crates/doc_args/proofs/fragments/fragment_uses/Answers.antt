-- What is gathered is in each fragment.
use Rattle.doc_args.specs.UsesIn.{uses_in_fragment}
use Rattle.doc_args.proofs.fragments.fragment_uses.Goals as goal

pub returns : goal.returns
returns c = c.in_ok-known.ensures (uses_in_fragment c.args.schema.now) c.in_ok-gathered.ensures
