-- It is known.
use Rattle.std.proofs.Common.{ap, sym}
use Rattle.std.specs.Prelude.{option_map}
use Rattle.plan_build.specs.ClassView.{target_view}
use Rattle.plan_build.proofs.kept.Kept.target.Goals as goal

pub returns-in-Some-clause-target : goal.returns-in-Some-clause-target
returns-in-Some-clause-target c = sym (c.find_target.ensures c.args.schema.now c.requires.right (target_view c.in-Some.target) (ap (option_map target_view) c.in-Some.is))
