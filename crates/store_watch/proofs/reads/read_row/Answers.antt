use Rattle.std.proofs.Common.{◌≡◌, ◌+◌, ◌≤◌, ap, subst, ◌∙◌}
use Rattle.plan_ir.specs.ReaderMeaning.{plan_reads}
use Rattle.plan_ir.specs.store_model.Walks.{Found, reading, standings, type_of_record}
use Rattle.store_read.specs.Reading.{reading_of, slots}
use Rattle.store_watch.specs.Rows.{look_of}
use Rattle.store_watch.specs.Watching.{differs, read_of, shows}
use Rattle.store_watch.proofs.reads.read_row.Goals as goal

pub returns-in_err-snapshot-clause-looks : goal.returns-in_err-snapshot-clause-looks
returns-in_err-snapshot-clause-looks g c =
    let m = slots (g.S.RecordSource.records c.args.view.now) in
    let what = c.args.row.now.what in
    let plan : c.plan.result.now ≡ what.plan.value = c.plan.ensures ∙ c.deref.ensures in
    let same : plan_reads (type_of_record c.deref-2.result.now.root) what.handle m c.deref-2.result.now.values c.plan.result.now.steps what.types what.id ≡ read_of m (look_of what) =
    (λ i. plan_reads (type_of_record (c.deref-2.ensures i).root) what.handle m (c.deref-2.ensures i).values (plan i).steps what.types what.id) in
    subst (λ (r : Found). g.S.Count.Steps.looks c.read.new.steps ≤ g.S.Count.Steps.looks c.args.steps.now + standings r) same c.read.ensures.looks

pub returns-clause-notice : goal.returns-clause-notice
returns-clause-notice g c =
    let m = slots (g.S.RecordSource.records c.args.view.now) in
    let what = c.args.row.now.what in
    let plan : c.plan.result.now ≡ what.plan.value = c.plan.ensures ∙ c.deref.ensures in
    let same : plan_reads (type_of_record c.deref-2.result.now.root) what.handle m c.deref-2.result.now.values c.plan.result.now.steps what.types what.id ≡ read_of m (look_of what) =
    (λ i. plan_reads (type_of_record (c.deref-2.ensures i).root) what.handle m (c.deref-2.ensures i).values (plan i).steps what.types what.id) in
    let gives : reading_of c.in_ok-snapshot.snapshot ≡ shows m (look_of what) = c.in_ok-snapshot.ensures.read ∙ ap reading same in
    let told = c.differs-told.ensures ∙ ap (differs (reading_of c.args.row.now.kept)) gives in
    λ i. record { place = c.args.place; gives = gives i; told = told i }

pub returns-clause-looks : goal.returns-clause-looks
returns-clause-looks g c =
    let m = slots (g.S.RecordSource.records c.args.view.now) in
    let what = c.args.row.now.what in
    let plan : c.plan.result.now ≡ what.plan.value = c.plan.ensures ∙ c.deref.ensures in
    let same : plan_reads (type_of_record c.deref-2.result.now.root) what.handle m c.deref-2.result.now.values c.plan.result.now.steps what.types what.id ≡ read_of m (look_of what) =
    (λ i. plan_reads (type_of_record (c.deref-2.ensures i).root) what.handle m (c.deref-2.ensures i).values (plan i).steps what.types what.id) in
    subst (λ (r : Found). g.S.Count.Steps.looks c.read.new.steps ≤ g.S.Count.Steps.looks c.args.steps.now + standings r) same c.read.ensures.looks
