-- The read of the plan's steps, as deep as they are.
use Rattle.std.proofs.Common.{◌≡◌, ◌+◌, ◌≤◌, ◌∷◌, [], ◌++◌, map, length, ap, subst, ◌∙◌}
use Rattle.std.proofs.lemmas.Result.{IfOk-weaker}
use Rattle.plan_ir.specs.gql_plain.Order.{sorted_texts}
use Rattle.plan_ir.specs.ReaderMeaning.{plan_reads, records_below}
use Rattle.plan_ir.specs.store_model.Walks.{Found, reading, type_of_record}
use Rattle.store_read.proofs.ReadSteps.{plan_is, snapshot_told}
use Rattle.store_read.proofs.reading.read.Goals as goal
use Rattle.store_read.specs.FieldView.{part_at}
use Rattle.store_read.specs.Meeting.{met_onto}
use Rattle.store_read.specs.Reading.{reading_of, slots}
use Rattle.store_read.specs.Walked.{reads}
use Rattle.store_read.specs.declared.snapshot.Snapshot.{Snapshot}

pub returns-clause-read : goal.returns-clause-read
returns-clause-read g c =
    let m = g.S.RecordSource.records c.args.source.now in
    let env = c.args.env.now in
    let owner = c.args.owner.now in
    let types = c.args.types.now in
    let id = c.args.id.now in
    let steps = c.args.plan.now.steps in
    let deep : c.levels-levels.result ≡ records_below steps + 1 = c.levels-levels.ensures in
    let alone = ap (map part_at) (c.in_ok-push.ensures.items ∙ ap (λ ps. ps ++ c.new.result ∷ []) c.in_ok-parts.ensures.items) ∙ ap (λ p. p ∷ []) c.new.ensures in
    let whole = (λ i. reads m (c.as_str.ensures i) owner (c.new-cache.ensures i).levels types (c.new-cache.ensures i).parts id)
    ∙ plan_is m env.root owner c.levels-levels.result types (map part_at c.push.new.self.items) id env.values steps deep alone in
    let shows = plan_reads (type_of_record env.root) owner (slots m) env.values steps types id in
    let met = c.read_record.new.met in
    IfOk-weaker c.snapshot.result (λ (s : Snapshot). s ≡ record { shown = c.or_null.result; missing = met.missing; seen = sorted_texts met.seen }) (λ (s : Snapshot). reading_of s ≡ reading shows)
    (λ s e. snapshot_told shows s c.or_null.result c.in_ok-shown.shown met e c.or_null.ensures (c.in_ok-shown.ensures.shown ∙ ap (λ (r : Found). r.0) whole) (c.in_ok-shown.ensures.met ∙ (λ i. met_onto (c.new-met.ensures i) (whole i).1)))
    c.snapshot.ensures

pub returns-clause-looks : goal.returns-clause-looks
returns-clause-looks g c =
    let m = g.S.RecordSource.records c.args.source.now in
    let env = c.args.env.now in
    let owner = c.args.owner.now in
    let types = c.args.types.now in
    let id = c.args.id.now in
    let steps = c.args.plan.now.steps in
    let deep : c.levels-levels.result ≡ records_below steps + 1 = c.levels-levels.ensures in
    let alone = ap (map part_at) (c.in_ok-push.ensures.items ∙ ap (λ ps. ps ++ c.new.result ∷ []) c.in_ok-parts.ensures.items) ∙ ap (λ p. p ∷ []) c.new.ensures in
    let whole = (λ i. reads m (c.as_str.ensures i) owner (c.new-cache.ensures i).levels types (c.new-cache.ensures i).parts id)
    ∙ plan_is m env.root owner c.levels-levels.result types (map part_at c.push.new.self.items) id env.values steps deep alone in
    subst (λ (r : Found). g.S.Count.Steps.looks c.read_record.new.steps ≤ g.S.Count.Steps.looks c.args.steps.now + length r.1.seen) whole c.read_record.ensures.looks

pub returns-in_err-shown-clause-looks : goal.returns-in_err-shown-clause-looks
returns-in_err-shown-clause-looks g c =
    let m = g.S.RecordSource.records c.args.source.now in
    let env = c.args.env.now in
    let owner = c.args.owner.now in
    let types = c.args.types.now in
    let id = c.args.id.now in
    let steps = c.args.plan.now.steps in
    let deep : c.levels-levels.result ≡ records_below steps + 1 = c.levels-levels.ensures in
    let alone = ap (map part_at) (c.in_ok-push.ensures.items ∙ ap (λ ps. ps ++ c.new.result ∷ []) c.in_ok-parts.ensures.items) ∙ ap (λ p. p ∷ []) c.new.ensures in
    let whole = (λ i. reads m (c.as_str.ensures i) owner (c.new-cache.ensures i).levels types (c.new-cache.ensures i).parts id)
    ∙ plan_is m env.root owner c.levels-levels.result types (map part_at c.push.new.self.items) id env.values steps deep alone in
    subst (λ (r : Found). g.S.Count.Steps.looks c.read_record.new.steps ≤ g.S.Count.Steps.looks c.args.steps.now + length r.1.seen) whole c.read_record.ensures.looks
