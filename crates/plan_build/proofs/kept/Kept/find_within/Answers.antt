-- What is known is right.
use Rattle.std.proofs.Common.{ap, refl, sym, ◌∙◌}
use Rattle.std.specs.Prelude.{option_copied}
use Rattle.plan_build.proofs.KeptSteps.{none_some}
use Rattle.plan_build.proofs.kept.Kept.find_within.Goals as goal

pub returns-in-Some : goal.returns-in-Some
returns-in-Some c = λ defs right b e. (right.known_right c.args.of.now c.in-Some.known.now (sym c.get.ensures.value ∙ ap option_copied c.in-Some.is)).withins c.args.on.now b (sym c.within.ensures ∙ e)

pub returns-in-None : goal.returns-in-None
returns-in-None c = λ defs right b e. none_some b _ refl e
