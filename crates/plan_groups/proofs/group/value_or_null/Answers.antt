-- The value that is given.
use Rattle.std.proofs.Common.{◌≡◌, Option, option_map, Bor, ap, sym, ◌∙◌}
use Rattle.std.proofs.lemmas.Result.{IfOk-weaker}
use Rattle.plan_ir.specs.gql_plain.Order.{member_at}
use Rattle.plan_ir.specs.gql_plain.Shown.{tree_of}
use Rattle.plan_ir.specs.gql_plain.declared.plain.Plain.{Plain}
use Rattle.plan_groups.proofs.ValueSteps.{given}
use Rattle.plan_groups.proofs.group.value_or_null.Goals as goal
use Rattle.plan_ir.specs.store_model.Says.{value_of}

pub returns-in-Some : goal.returns-in-Some
returns-in-Some c =
    IfOk-weaker c.copy.result (λ plain. plain ≡ c.in-Some.plain.now) (λ plain. plain ≡ value_of c.args.name.now c.args.arguments.now)
    (λ plain is. is ∙ given c.in-Some.plain.now (member_at c.args.arguments.now c.args.name.now)
    (sym (ap (λ (r : Option (Bor Plain)). option_map (λ p. tree_of p.now) r) c.in-Some.is) ∙ c.get.ensures))
    c.copy.ensures
