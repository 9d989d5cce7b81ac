-- It is there, or it is not.
use Rattle.std.proofs.Common.{ap, sym, ◌∙◌}
use Rattle.std.specs.Prelude.{option_copied, option_map}
use Rattle.plan_build.specs.ClassView.{target_view}
use Rattle.plan_build.proofs.known.Known.target.Goals as goal

pub returns-in-Some : goal.returns-in-Some
returns-in-Some c = ap (option_map target_view) (sym (ap option_copied c.in-Some.is) ∙ c.get.ensures.value)

pub returns-in-None : goal.returns-in-None
returns-in-None c = ap (option_map target_view) (sym (ap option_copied c.in-None.is) ∙ c.get.ensures.value)
