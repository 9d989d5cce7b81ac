-- The key that is kept is that of the field in each environment.
use Rattle.std.proofs.Common.{sym, ◌∙◌}
use Rattle.plan_ir.proofs.KeptKeys.{kept_key}
use Rattle.plan_groups.proofs.field.FieldAt.leaf.Goals as goal

pub returns-clause-kept : goal.returns-clause-kept
returns-clause-kept c = λ key is. kept_key c.args.env.now.values c.args.name.now c.args.arguments.now key (sym is ∙ c.requires)
