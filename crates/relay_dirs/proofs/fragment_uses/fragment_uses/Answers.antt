-- What is gathered is in each fragment.
use Rattle.relay_rules.specs.Spreads.{uses_in_fragment}
use Rattle.relay_dirs.proofs.fragment_uses.fragment_uses.Goals as goal

pub returns : goal.returns
returns c = λ fs s. c.in_ok-known.ensures (uses_in_fragment c.args.schema.now fs) (c.in_ok-gathered.ensures fs s)
