use Rattle.std.proofs.Common.{◌≡◌, ◌+◌, ◌≤◌, ap, sym, subst, ◌∙◌}
use Rattle.std.specs.Map.{values_of}
use Rattle.plan_ir.specs.store_model.Walks.{Slots}
use Rattle.store_read.specs.Reading.{slots}
use Rattle.store_watch.proofs.Told.{all_shown, notices_rise, notices_within, others_shown, told_all, work_all}
use Rattle.store_watch.specs.Lists.{under}
use Rattle.store_watch.specs.Numbers.{IsComplete, Rises, numbers_of}
use Rattle.store_watch.specs.Places.{places_from}
use Rattle.store_watch.specs.Reads.{told_of, work_of}
use Rattle.store_watch.specs.Rows.{met_by, seen_of, tellings_of}
use Rattle.store_watch.specs.Watching.{notices, work}
use Rattle.store_watch.specs.declared.rows.Row.{Row}
use Rattle.std.specs.Prelude.{List}
use Rattle.store_watch.proofs.watches.Watches.notify.Goals as goal

pub due_places-requires-clause-rises : goal.due_places-requires-clause-rises
due_places-requires-clause-rises g c = subst (λ (rows : List Row). Rises (numbers_of (seen_of rows))) (sym c.in_order-rows.ensures) c.self.invariant.rises

pub due_places-requires-clause-complete : goal.due_places-requires-clause-complete
due_places-requires-clause-complete g c = λ e.
    let inside = c.self.inside in
    subst (λ late. IsComplete (under inside.index.lists) late (seen_of c.in_order-rows.result.now)) (sym c.deref.ensures.value)
    (subst (λ (rows : List Row). IsComplete (under inside.index.lists) inside.late.items (seen_of rows)) (sym c.in_order-rows.ensures) (c.self.invariant.complete e))

pub returns-clause-notices : goal.returns-clause-notices
returns-clause-notices g c =
    let inside = c.self.inside in
    let m = slots (g.S.RecordSource.records c.args.view.now) in
    let touched = c.args.touched.now in
    let places = c.deref-2.ensures.value ∙ c.in_ok-places.ensures in
    c.in_ok-list.ensures.notices ∙ (λ i. told_of m c.in_order-rows.result.now (places i))
    ∙ ap (λ (rows : List Row). told_of m rows (places_from (met_by touched) 0 rows)) c.in_order-rows.ensures ∙ told_all m touched inside.rows.entries ∙ ap (notices m touched) c.self.view_is

pub returns-in_err-list-clause-looks : goal.returns-in_err-list-clause-looks
returns-in_err-list-clause-looks g c =
    let inside = c.self.inside in
    let m = slots (g.S.RecordSource.records c.args.view.now) in
    let touched = c.args.touched.now in
    let places = c.deref-2.ensures.value ∙ c.in_ok-places.ensures in
    let same = (λ i. work_of m c.in_order-rows.result.now (places i)) ∙ ap (λ (rows : List Row). work_of m rows (places_from (met_by touched) 0 rows)) c.in_order-rows.ensures
    ∙ work_all m touched inside.rows.entries ∙ ap (work m touched) c.self.view_is in
    subst (λ n. g.S.Count.Steps.looks c.read_rows.new.steps ≤ g.S.Count.Steps.looks c.args.steps.now + n) same c.read_rows.ensures.looks

pub returns-clause-looks : goal.returns-clause-looks
returns-clause-looks g c =
    let inside = c.self.inside in
    let m = slots (g.S.RecordSource.records c.args.view.now) in
    let touched = c.args.touched.now in
    let places = c.deref-2.ensures.value ∙ c.in_ok-places.ensures in
    let same = (λ i. work_of m c.in_order-rows.result.now (places i)) ∙ ap (λ (rows : List Row). work_of m rows (places_from (met_by touched) 0 rows)) c.in_order-rows.ensures
    ∙ work_all m touched inside.rows.entries ∙ ap (work m touched) c.self.view_is in
    subst (λ n. g.S.Count.Steps.looks c.read_rows.new.steps ≤ g.S.Count.Steps.looks c.args.steps.now + n) same c.read_rows.ensures.looks

pub returns-in_err-places-clause-others : goal.returns-in_err-places-clause-others
returns-in_err-places-clause-others g c = λ before shown differ. others_shown before (slots (g.S.RecordSource.records c.args.view.now)) c.args.touched.now differ c.args.self.now shown

pub returns-in_err-places-clause-current : goal.returns-in_err-places-clause-current
returns-in_err-places-clause-current g c = λ before shown differ.
    let m = slots (g.S.RecordSource.records c.args.view.now) in
    all_shown m c.args.touched.now c.args.self.now (others_shown before m c.args.touched.now differ c.args.self.now shown)

pub returns-in_err-places-clause-within : goal.returns-in_err-places-clause-within
returns-in_err-places-clause-within g c = notices_within (slots (g.S.RecordSource.records c.args.view.now)) c.args.touched.now c.args.self.now

pub returns-in_err-places-clause-rise : goal.returns-in_err-places-clause-rise
returns-in_err-places-clause-rise g c = notices_rise (slots (g.S.RecordSource.records c.args.view.now)) c.args.touched.now c.args.self.now

pub returns-in_err-list-clause-others : goal.returns-in_err-list-clause-others
returns-in_err-list-clause-others g c = λ before shown differ. others_shown before (slots (g.S.RecordSource.records c.args.view.now)) c.args.touched.now differ c.args.self.now shown

pub returns-in_err-list-clause-current : goal.returns-in_err-list-clause-current
returns-in_err-list-clause-current g c = λ before shown differ.
    let m = slots (g.S.RecordSource.records c.args.view.now) in
    all_shown m c.args.touched.now c.args.self.now (others_shown before m c.args.touched.now differ c.args.self.now shown)

pub returns-in_err-list-clause-within : goal.returns-in_err-list-clause-within
returns-in_err-list-clause-within g c = notices_within (slots (g.S.RecordSource.records c.args.view.now)) c.args.touched.now c.args.self.now

pub returns-in_err-list-clause-rise : goal.returns-in_err-list-clause-rise
returns-in_err-list-clause-rise g c = notices_rise (slots (g.S.RecordSource.records c.args.view.now)) c.args.touched.now c.args.self.now

pub returns-clause-others : goal.returns-clause-others
returns-clause-others g c = λ before shown differ. others_shown before (slots (g.S.RecordSource.records c.args.view.now)) c.args.touched.now differ c.args.self.now shown

pub returns-clause-current : goal.returns-clause-current
returns-clause-current g c = λ before shown differ.
    let m = slots (g.S.RecordSource.records c.args.view.now) in
    all_shown m c.args.touched.now c.args.self.now (others_shown before m c.args.touched.now differ c.args.self.now shown)

pub returns-clause-within : goal.returns-clause-within
returns-clause-within g c = notices_within (slots (g.S.RecordSource.records c.args.view.now)) c.args.touched.now c.args.self.now

pub returns-clause-rise : goal.returns-clause-rise
returns-clause-rise g c = notices_rise (slots (g.S.RecordSource.records c.args.view.now)) c.args.touched.now c.args.self.now
