-- What is kept stays right.
use Rattle.plan_build.proofs.kept.Kept.keep_target.Goals as goal

pub returns : goal.returns
returns c = λ defs right is.
    c.in_ok-put_known.ensures defs (c.take-known.ensures.right defs right) (c.in_ok-put_target.ensures defs c.args.of.now (c.take-known.ensures.known defs right) is)
