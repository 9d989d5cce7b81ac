-- The plan is read under the environment that is kept.
use Rattle.std.proofs.Common.{◌≡◌, ◌+◌, ◌≤◌, IfOk, subst, ◌∙◌}
use Rattle.plan_ir.specs.ReaderMeaning.{plan_reads}
use Rattle.plan_ir.specs.declared.reader.ReaderPlan.{ReaderPlan}
use Rattle.line_engine.proofs.watched.look.Goals as goal
use Rattle.plan_ir.specs.constant_values.declared.env.Env.{Env}
use Rattle.plan_ir.specs.store_model.Walks.{reading, standings, type_of_record}
use Rattle.store_watch.specs.store_read.Reading.{reading_of, slots}

pub returns-clause-read : goal.returns-clause-read
returns-clause-read g c =
    let what = c.args.what.now in
    let m = slots (g.S.RecordSource.records c.args.source.now) in
    subst (λ (env : Env). IfOk c.read.result (λ s. reading_of s ≡ reading (plan_reads (type_of_record env.root) what.handle m env.values what.plan.value.steps what.types what.id))) c.deref-2.ensures
    (subst (λ (plan : ReaderPlan). IfOk c.read.result (λ s. reading_of s ≡ reading (plan_reads (type_of_record c.deref-2.result.now.root) what.handle m c.deref-2.result.now.values plan.steps what.types what.id)))
    (c.plan-plan.ensures ∙ c.deref.ensures) c.read.ensures.read)

pub returns-clause-looks : goal.returns-clause-looks
returns-clause-looks g c =
    let what = c.args.what.now in
    let m = slots (g.S.RecordSource.records c.args.source.now) in
    let before = g.S.Count.Steps.looks c.args.steps.now in
    let after = g.S.Count.Steps.looks c.read.new.steps in
    subst (λ (env : Env). after ≤ before + standings (plan_reads (type_of_record env.root) what.handle m env.values what.plan.value.steps what.types what.id)) c.deref-2.ensures
    (subst (λ (plan : ReaderPlan). after ≤ before + standings (plan_reads (type_of_record c.deref-2.result.now.root) what.handle m c.deref-2.result.now.values plan.steps what.types what.id))
    (c.plan-plan.ensures ∙ c.deref.ensures) c.read.ensures.looks)
