-- The root is an object whose type, id and name are known.
use Rattle.std.proofs.Common.{rules, ◌≡◌, ◌∷◌, [], codes, subst, sym, ap, ◌∙◌}
use Rattle.plan_groups.specs.FieldView.{plan_at}
use Rattle.plan_ir.specs.NormalMeaning.{collect_plan}
use Rattle.serde_json.specs.View.{members_view}
use Rattle.plan_ir.specs.store_model.Items.{groups_at}
use Rattle.plan_ir.specs.store_model.Says.{groups_say, walks_of}
use Rattle.store_norm.proofs.CacheSteps.{plans_of-caches}
use Rattle.store_norm.proofs.TakeSteps.{fields_taken}
use Rattle.store_norm.proofs.taken.take_root.Goals as goal
use Rattle.store_norm.specs.Caching.{parts_of, plans_of}
use Rattle.plan_ir.specs.store_record.Keys.{root}
use Rattle.store_report.specs.ObjectRows.{Adds, with_open}

pub take_groups-requires : goal.take_groups-requires
take_groups-requires c =
    ap plans_of (c.deref_mut.ensures.value ∙ c.in_ok-below.ensures) ∙ plans_of-caches c.as_slice.result.now ∙ ap parts_of (c.as_slice.ensures ∙ sym c.as_slice-3.ensures)

pub returns : goal.returns
returns c =
    let groups = groups_at collect_plan c.args.root.now (plan_at c.args.part ∷ []) in
    let row : c.in_ok-into_words.field-0 ≡ c.in_ok-id.id = search rules in
    fields_taken c.args.rows.now c.take_groups.new.rows c.push.new.self c.in_ok-id.id root c.in_ok-into_words.field-0 c.in_ok-name.name (codes "__Root") c.in_ok-fields.fields.items c.take_groups.new.fields.items []
    (members_view c.args.members.now.entries) c.as_slice-3.result.now groups (c.in_ok-id.ensures ∙ c.in_ok-new.ensures) (search rules) (c.as_slice-3.ensures ∙ c.in_ok-groups.ensures) row (search rules)
    (subst (λ path. Adds (with_open c.in_ok-id.id c.in_ok-fields.fields.items c.args.rows.now) (with_open c.in_ok-id.id c.take_groups.new.fields.items c.take_groups.new.rows) (groups_say collect_plan c.in_ok-id.id path (walks_of collect_plan (members_view c.args.members.now.entries)) c.as_slice-3.result.now)) c.new-trail.ensures c.in_ok-take_groups.ensures.said)
    c.in_ok-push.ensures.facts c.in_ok-push.ensures.pages c.in_ok-push.ensures.fault
