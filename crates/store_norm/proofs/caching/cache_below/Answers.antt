-- Where objects stand under the group, the plans below it are copied; else there are none.
use Rattle.std.proofs.Common.{rules, ◌≡◌, true, false, cond, [], map, sym, ap, ◌∙◌}
use Rattle.std.proofs.lemmas.Result.{IfOk-weaker}
use Rattle.plan_groups.specs.FieldView.{plan_at}
use Rattle.plan_ir.specs.store_model.Items.{parts}
use Rattle.store_norm.proofs.caching.cache_below.Goals as goal
use Rattle.store_norm.specs.Caching.{has_objects, parts_below}

pub returns-then-has_objects : goal.returns-then-has_objects
returns-then-has_objects c =
    let g = c.args.group.now in
    let there : has_objects g.first.ask.form ≡ true = ap has_objects (sym c.form.ensures) ∙ sym c.has_objects.ensures ∙ c.if-has_objects.true in
    let asked : map plan_at c.parts.result.now ≡ parts_below g = c.parts.ensures ∙ sym (ap (λ b. cond b (parts g) []) there) in
    IfOk-weaker c.new.result _ _ (λ cache h. h ∙ (λ i. record { parts = asked i })) c.new.ensures

pub returns : goal.returns
returns c =
    let g = c.args.group.now in
    let known : c.has_objects.result ≡ false = search rules in
    let absent : has_objects g.first.ask.form ≡ false = ap has_objects (sym c.form.ensures) ∙ sym c.has_objects.ensures ∙ known in
    let none : [] ≡ parts_below g = sym (ap (λ b. cond b (parts g) []) absent) in
    c.empty.ensures ∙ (λ i. record { parts = none i })
