-- A step that leads to objects leads to what stands below the field.
use Rattle.std.proofs.Common.{◌≡◌, ap, sym, ◌∙◌}
use Rattle.std.proofs.lemmas.Bool.{and_parts}
use Rattle.plan_ir.proofs.NormalLeadLaws.{last_lead_put}
use Rattle.plan_ir.specs.Normal.{Normal, normal_append}
use Rattle.plan_ir.specs.NormalView.{step_of}
use Rattle.plan_build.proofs.CodeSteps.{class_lead}
use Rattle.plan_build.specs.ClassView.{field_view, target_view}
use Rattle.plan_build.specs.Steps.{target_step}
use Rattle.plan_build.proofs.steps.put_class.Goals as goal

pub push_again-requires : goal.push_again-requires
push_again-requires c = λ again.
    let both = and_parts c.args.before c.is_composite-leads.result (sym c.are_both-again.ensures ∙ again) in
    let step = target_step c.args.schema.now (field_view c.args.field.now) c.args.child.now (target_view c.args.class.now.target) in
    let inside : c.in_ok-inside.inside ≡ step = c.in_ok-inside.ensures ∙ c.in_ok-put_target.ensures.put ∙ ap (λ (s : Normal). normal_append s step) c.new-inside.ensures in
    c.requires.before both.0
    ∙ sym (class_lead c.args.schema.now (field_view c.args.field.now) c.args.child.now (target_view c.args.class.now.target) c.in_ok-inside.inside (step_of c.behind-step.result) _ inside c.behind-step.ensures (sym c.is_composite-leads.ensures ∙ both.1))

pub returns-clause-leads : goal.returns-clause-leads
returns-clause-leads c = λ leads.
    let step = target_step c.args.schema.now (field_view c.args.field.now) c.args.child.now (target_view c.args.class.now.target) in
    let inside : c.in_ok-inside.inside ≡ step = c.in_ok-inside.ensures ∙ c.in_ok-put_target.ensures.put ∙ ap (λ (s : Normal). normal_append s step) c.new-inside.ensures in
    last_lead_put c.args.steps.now c.push_again.new.self c.behind-step.result c.in_ok-push_again.ensures.ok
    ∙ class_lead c.args.schema.now (field_view c.args.field.now) c.args.child.now (target_view c.args.class.now.target) c.in_ok-inside.inside (step_of c.behind-step.result) _ inside c.behind-step.ensures (sym c.is_composite-leads.ensures ∙ leads)
