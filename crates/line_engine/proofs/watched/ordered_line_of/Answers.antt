-- What the plan in order answers is what the plan does.
use Rattle.std.proofs.Common.{◌≡◌, ◌+◌, ◌≤◌, ◌++◌, ◌∷◌, [], IfOk, subst}
use Rattle.plan_ir.specs.ReaderMeaning.{plan_reads}
use Rattle.line_engine.proofs.watched.ordered_line_of.Goals as goal
use Rattle.relay_machine.specs.Printed as printed
use Rattle.plan_ir.specs.constant_values.declared.env.Env.{Env}
use Rattle.plan_ir.specs.store_model.Walks.{reading, standings, type_of_record}
use Rattle.store_watch.specs.store_read.Reading.{slots}
use Rattle.relay_lines.proofs.store_show_laws.AlikeReadings.{plan_readings, plan_standings}

pub returns-clause-line : goal.returns-clause-line
returns-clause-line g c =
    let what = c.args.what.now in
    let plan = c.args.plan.now in
    let m = slots (g.S.RecordSource.records c.args.source.now) in
    subst (λ r. IfOk c.line_of_read.result (λ words. words ++ 10 ∷ [] ≡ printed.read_line c.args.n r))
    (plan_readings what.plan.value.steps plan.steps c.requires.alike (type_of_record what.env.value.root) what.handle m what.env.value.values what.types what.id)
    (subst (λ (env : Env). IfOk c.line_of_read.result (λ words. words ++ 10 ∷ [] ≡ printed.read_line c.args.n (reading (plan_reads (type_of_record env.root) what.handle m env.values plan.steps what.types what.id)))) c.deref.ensures c.line_of_read.ensures.line)

pub returns-clause-looks : goal.returns-clause-looks
returns-clause-looks g c =
    let what = c.args.what.now in
    let plan = c.args.plan.now in
    let m = slots (g.S.RecordSource.records c.args.source.now) in
    let before = g.S.Count.Steps.looks c.args.steps.now in
    let after = g.S.Count.Steps.looks c.line_of_read.new.steps in
    subst (λ k. after ≤ before + k)
    (plan_standings what.plan.value.steps plan.steps c.requires.alike (type_of_record what.env.value.root) what.handle m what.env.value.values what.types what.id)
    (subst (λ (env : Env). after ≤ before + standings (plan_reads (type_of_record env.root) what.handle m env.values plan.steps what.types what.id)) c.deref.ensures c.line_of_read.ensures.looks)
