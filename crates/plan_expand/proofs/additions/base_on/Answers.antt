-- The field is there, or it is not.
use Rattle.std.proofs.Common.{Some, ap, sym, ◌∙◌}
use Rattle.std.specs.Prelude.{option_copied}
use Rattle.plan_ir.specs.schema_types.Sites.{field_type}
use Rattle.plan_expand.proofs.AdditionSteps.{base_none, base_some}
use Rattle.plan_expand.proofs.additions.base_on.Goals as goal

pub returns-in-Some : goal.returns-in-Some
returns-in-Some c =
    base_some (field_type c.args.schema.now (Some c.args.of.now) c.args.name.now) _ (sym (sym c.below_on.ensures ∙ ap option_copied c.in-Some.is))

pub returns-in-None : goal.returns-in-None
returns-in-None c =
    base_none (field_type c.args.schema.now (Some c.args.of.now) c.args.name.now) (sym (sym c.below_on.ensures ∙ ap option_copied c.in-None.is))
