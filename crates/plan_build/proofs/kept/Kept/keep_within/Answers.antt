-- What is kept stays right.
use Rattle.plan_build.proofs.kept.Kept.keep_within.Goals as goal

pub returns : goal.returns
returns c = λ defs right is.
    c.in_ok-put_known.ensures defs (c.take-known.ensures.right defs right) (c.in_ok-put_within.ensures defs c.args.of.now (c.take-known.ensures.known defs right) is)
