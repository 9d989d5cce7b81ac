-- The text stands in both lists.
use Rattle.std.proofs.Common.{ap, sym, ◌∙◌}
use Rattle.plan_ir.specs.gql_plain.Order.{has_text}
use Rattle.store_retain.proofs.CommonSteps.{common_not, common_put}
use Rattle.store_retain.proofs.table.put_common.Goals as goal

pub returns-then-not-contains : goal.returns-then-not-contains
returns-then-not-contains c = λ T.
    common_not c.args.texts.now.items c.args.list.now c.args.text.now T (ap (has_text c.args.list.now) (sym c.as_str.ensures) ∙ sym c.contains.ensures ∙ c.if-not-contains.true)

pub returns : goal.returns
returns c = λ T.
    common_put c.args.texts.now.items c.push.new.self.items c.args.list.now c.args.text.now c.in_ok-copy.field-0 T c.in_ok-push.ensures.items c.in_ok-copy.ensures
    (ap (has_text c.args.list.now) (sym c.as_str.ensures) ∙ sym c.contains.ensures ∙ c.if-not-contains.false)
