-- The value is its tree.
use Rattle.std.proofs.Common.{ap, sym, ◌∙◌}
use Rattle.plan_build.specs.Conditions.{tree_of}
use Rattle.plan_build.proofs.ConditionTrees.{tree_of_value}
use Rattle.plan_build.proofs.conditions.condition.Goals as goal

pub returns : goal.returns
returns c = λ i. record { skip = c.args.skip; value = (sym (tree_of_value c.in_ok-value.value) ∙ ap tree_of c.in_ok-value.ensures) i }
