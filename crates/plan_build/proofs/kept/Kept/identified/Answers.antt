-- What is kept is right.
use Rattle.std.proofs.Common.{ap, sym, ◌∙◌}
use Rattle.std.specs.Prelude.{option_copied}
use Rattle.plan_build.proofs.kept.Kept.identified.Goals as goal

pub returns-in-Some-clause-ids : goal.returns-in-Some-clause-ids
returns-in-Some-clause-ids c = c.in_ok-ids.ensures ∙ c.requires.right.ids_right c.args.of.now c.in-Some.ids.now (sym c.find.ensures ∙ ap option_copied c.in-Some.is)
