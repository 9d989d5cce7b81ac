-- Two looks tell it, or it is known, or it is sought.
use Rattle.std.proofs.Common.{◌∙◌}
use Rattle.plan_build.specs.Steps.{are_within}
use Rattle.plan_build.proofs.kept.Kept.within.Goals as goal

pub returns-in-Some-clause-within : goal.returns-in-Some-clause-within
returns-in-Some-clause-within c = c.find_within.ensures c.args.schema.now c.requires.right c.in-Some.within c.in-Some.is

pub returns-clause-right : goal.returns-clause-right
returns-clause-right c = c.in_ok-keep_within.ensures c.args.schema.now c.requires.right (c.are_within-found.ensures ∙ (λ i. are_within (c.possible-ids.ensures i) (c.possible-types.ensures i)))
