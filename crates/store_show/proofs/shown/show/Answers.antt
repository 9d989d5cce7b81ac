-- The walk as deep as the plan tells what the plan tells.
use Rattle.std.proofs.Common.{◌≡◌, ◌+◌, ◌≤◌, ◌++◌, ◌∷◌, [], length, map, subst, ap, ◌∙◌}
use Rattle.plan_ir.specs.gql_plain.Order.{AreSortedOf}
use Rattle.plan_ir.specs.ReaderMeaning.{plan_reads, records_below}
use Rattle.plan_ir.specs.store_model.Walks.{Found, type_of_record}
use Rattle.store_read.specs.FieldView.{part_at}
use Rattle.store_read.specs.Meeting.{Meeting}
use Rattle.store_read.specs.Reading.{slots}
use Rattle.store_show.proofs.ShownAlike.{alike_looks, alike_missing, alike_seen, alike_tokens, shown_alike}
use Rattle.store_show.proofs.shown.show.Goals as goal
use Rattle.store_show.specs.Showing.{below, led, walks}
use Rattle.store_show.specs.Stood.{stood_onto}
use Rattle.store_show.specs.declared.lead.Lead.TheVariants.{Alone}

pub returns-clause-shown : goal.returns-clause-shown
returns-clause-shown g c =
    let m = g.S.RecordSource.records c.args.source.now in
    let env = c.args.env.now in
    let owner = c.args.owner.now in
    let types = c.args.types.now in
    let id = c.args.id.now in
    let plan = c.args.plan.now.steps in
    let levels = c.levels-levels.result in
    let deep : levels ≡ records_below plan + 1 = c.levels-levels.ensures in
    let whole : below m c.as_str.result.now owner levels types (part_at c.new.result ∷ []) c.as_str-2.result.now ≡ walks m env.root owner env.values levels types plan id =
    λ i. below m (c.as_str.ensures i) owner levels types (c.new.ensures i ∷ []) (c.as_str-2.ensures i) in
    let found = walks m env.root owner env.values levels types plan id in
    let shows = plan_reads (type_of_record env.root) owner (slots m) env.values plan types id in
    let alike = shown_alike m env.root owner env.values types plan id c.requires levels deep in
    let tokens = alike_tokens found shows alike c.args.out.now.tokens c.show_record.new.out.tokens (c.in_ok-show_record.ensures.shown ∙ ap (λ (r : Found). c.args.out.now.tokens ++ led Alone r.0) whole) in
    tokens

pub returns-clause-missing : goal.returns-clause-missing
returns-clause-missing g c =
    let m = g.S.RecordSource.records c.args.source.now in
    let env = c.args.env.now in
    let owner = c.args.owner.now in
    let types = c.args.types.now in
    let id = c.args.id.now in
    let plan = c.args.plan.now.steps in
    let levels = c.levels-levels.result in
    let deep : levels ≡ records_below plan + 1 = c.levels-levels.ensures in
    let whole : below m c.as_str.result.now owner levels types (part_at c.new.result ∷ []) c.as_str-2.result.now ≡ walks m env.root owner env.values levels types plan id =
    λ i. below m (c.as_str.ensures i) owner levels types (c.new.ensures i ∷ []) (c.as_str-2.ensures i) in
    let found = walks m env.root owner env.values levels types plan id in
    let shows = plan_reads (type_of_record env.root) owner (slots m) env.values plan types id in
    let alike = shown_alike m env.root owner env.values types plan id c.requires levels deep in
    let met = c.in_ok-show_record.ensures.met ∙ ap (λ (r : Found). stood_onto c.new-met.result r.1) whole in
    ap (λ (x : Meeting). x.missing) c.met.view_is ∙ alike_missing found shows alike c.new-met.result c.show_record.new.met c.new-met.ensures met

pub returns-clause-seen : goal.returns-clause-seen
returns-clause-seen g c =
    let m = g.S.RecordSource.records c.args.source.now in
    let env = c.args.env.now in
    let owner = c.args.owner.now in
    let types = c.args.types.now in
    let id = c.args.id.now in
    let plan = c.args.plan.now.steps in
    let levels = c.levels-levels.result in
    let deep : levels ≡ records_below plan + 1 = c.levels-levels.ensures in
    let whole : below m c.as_str.result.now owner levels types (part_at c.new.result ∷ []) c.as_str-2.result.now ≡ walks m env.root owner env.values levels types plan id =
    λ i. below m (c.as_str.ensures i) owner levels types (c.new.ensures i ∷ []) (c.as_str-2.ensures i) in
    let found = walks m env.root owner env.values levels types plan id in
    let shows = plan_reads (type_of_record env.root) owner (slots m) env.values plan types id in
    let alike = shown_alike m env.root owner env.values types plan id c.requires levels deep in
    let met = c.in_ok-show_record.ensures.met ∙ ap (λ (r : Found). stood_onto c.new-met.result r.1) whole in
    alike_seen found shows alike c.new-met.result c.show_record.new.met (map (λ t. t.now) c.in_ok-sorted_texts.field-0.items) c.new-met.ensures met (subst (λ (x : Meeting). AreSortedOf x.seen (map (λ t. t.now) c.in_ok-sorted_texts.field-0.items)) c.met.view_is c.in_ok-sorted_texts.ensures)

pub returns-clause-looks : goal.returns-clause-looks
returns-clause-looks g c =
    let m = g.S.RecordSource.records c.args.source.now in
    let env = c.args.env.now in
    let owner = c.args.owner.now in
    let types = c.args.types.now in
    let id = c.args.id.now in
    let plan = c.args.plan.now.steps in
    let levels = c.levels-levels.result in
    let deep : levels ≡ records_below plan + 1 = c.levels-levels.ensures in
    let whole : below m c.as_str.result.now owner levels types (part_at c.new.result ∷ []) c.as_str-2.result.now ≡ walks m env.root owner env.values levels types plan id =
    λ i. below m (c.as_str.ensures i) owner levels types (c.new.ensures i ∷ []) (c.as_str-2.ensures i) in
    let found = walks m env.root owner env.values levels types plan id in
    let shows = plan_reads (type_of_record env.root) owner (slots m) env.values plan types id in
    let alike = shown_alike m env.root owner env.values types plan id c.requires levels deep in
    alike_looks found shows alike (g.S.Count.Steps.looks c.args.steps.now) (g.S.Count.Steps.looks c.show_record.new.steps) (subst (λ (r : Found). g.S.Count.Steps.looks c.show_record.new.steps ≤ g.S.Count.Steps.looks c.args.steps.now + length r.1.seen) whole c.show_record.ensures.looks)

pub returns-in_err-show_record-clause-looks : goal.returns-in_err-show_record-clause-looks
returns-in_err-show_record-clause-looks g c =
    let m = g.S.RecordSource.records c.args.source.now in
    let env = c.args.env.now in
    let owner = c.args.owner.now in
    let types = c.args.types.now in
    let id = c.args.id.now in
    let plan = c.args.plan.now.steps in
    let levels = c.levels-levels.result in
    let deep : levels ≡ records_below plan + 1 = c.levels-levels.ensures in
    let whole : below m c.as_str.result.now owner levels types (part_at c.new.result ∷ []) c.as_str-2.result.now ≡ walks m env.root owner env.values levels types plan id =
    λ i. below m (c.as_str.ensures i) owner levels types (c.new.ensures i ∷ []) (c.as_str-2.ensures i) in
    let found = walks m env.root owner env.values levels types plan id in
    let shows = plan_reads (type_of_record env.root) owner (slots m) env.values plan types id in
    let alike = shown_alike m env.root owner env.values types plan id c.requires levels deep in
    alike_looks found shows alike (g.S.Count.Steps.looks c.args.steps.now) (g.S.Count.Steps.looks c.show_record.new.steps) (subst (λ (r : Found). g.S.Count.Steps.looks c.show_record.new.steps ≤ g.S.Count.Steps.looks c.args.steps.now + length r.1.seen) whole c.show_record.ensures.looks)

pub returns-in_err-sorted_texts-clause-looks : goal.returns-in_err-sorted_texts-clause-looks
returns-in_err-sorted_texts-clause-looks g c =
    let m = g.S.RecordSource.records c.args.source.now in
    let env = c.args.env.now in
    let owner = c.args.owner.now in
    let types = c.args.types.now in
    let id = c.args.id.now in
    let plan = c.args.plan.now.steps in
    let levels = c.levels-levels.result in
    let deep : levels ≡ records_below plan + 1 = c.levels-levels.ensures in
    let whole : below m c.as_str.result.now owner levels types (part_at c.new.result ∷ []) c.as_str-2.result.now ≡ walks m env.root owner env.values levels types plan id =
    λ i. below m (c.as_str.ensures i) owner levels types (c.new.ensures i ∷ []) (c.as_str-2.ensures i) in
    let found = walks m env.root owner env.values levels types plan id in
    let shows = plan_reads (type_of_record env.root) owner (slots m) env.values plan types id in
    let alike = shown_alike m env.root owner env.values types plan id c.requires levels deep in
    alike_looks found shows alike (g.S.Count.Steps.looks c.args.steps.now) (g.S.Count.Steps.looks c.show_record.new.steps) (subst (λ (r : Found). g.S.Count.Steps.looks c.show_record.new.steps ≤ g.S.Count.Steps.looks c.args.steps.now + length r.1.seen) whole c.show_record.ensures.looks)
