-- The root is an object whose type, id and name are known.
use Rattle.std.proofs.Common.{◌≡◌, ◌∷◌, [], codes, sym, ap, ◌∙◌}
use Rattle.std.proofs.lemmas.Result.{on_ok_weaker}
use Rattle.plan_ir.specs.gql_plain.declared.plain.Plain.TheVariants.{Text as Words}
use Rattle.plan_groups.specs.FieldView.{plan_at}
use Rattle.plan_ir.specs.NormalMeaning.{collect_plan}
use Rattle.serde_json.specs.View.{members_view}
use Rattle.plan_ir.specs.store_model.Items.{groups_at}
use Rattle.plan_ir.specs.store_model.Records.{typename}
use Rattle.plan_ir.specs.store_model.Says.{groups_say, put_at, walks_of}
use Rattle.store_norm.proofs.CacheSteps.{plans_of-caches}
use Rattle.store_norm.proofs.FieldSteps.{said_twice}
use Rattle.store_norm.proofs.response.say_root.Goals as goal
use Rattle.store_norm.specs.Caching.{parts_of, plans_of}
use Rattle.plan_ir.specs.store_record.Keys.{root}
use Rattle.plan_ir.specs.store_record.declared.field.Field.TheVariants.{Leaf}
use Rattle.store_report.specs.Gathering.{gathered_onto}

pub say_groups-requires : goal.say_groups-requires
say_groups-requires c =
    ap plans_of (c.deref_mut.ensures.value ∙ c.in_ok-below.ensures) ∙ plans_of-caches c.as_slice.result.now ∙ ap parts_of (c.as_slice.ensures ∙ sym c.as_slice-2.ensures)

pub returns : goal.returns
returns c =
    let g = c.args.gathered.now in
    let walks = walks_of collect_plan (members_view c.args.members.now.entries) in
    let groups = groups_at collect_plan c.args.root.now (plan_at c.args.part ∷ []) in
    let id : c.in_ok-id.id ≡ root = c.in_ok-id.ensures ∙ c.in_ok-new.ensures in
    let first : c.name.new.self ≡ gathered_onto g (put_at root typename (Leaf (Words (codes "__Root"))) []) =
    c.in_ok-name.ensures ∙ (λ i. gathered_onto g (put_at (id i) typename (Leaf (Words (c.in_ok-new-2.ensures i))) (c.new-path.ensures i))) in
    on_ok_weaker c.say_groups.result
    (λ said.
    said_twice g c.name.new.self c.say_groups.new.gathered (put_at root typename (Leaf (Words (codes "__Root"))) []) (groups_say collect_plan root [] walks groups) first
    (said ∙ (λ i. gathered_onto c.name.new.self (groups_say collect_plan (id i) (c.new-path.ensures i) walks ((c.as_slice-2.ensures ∙ c.in_ok-groups.ensures) i)))))
    c.say_groups.ensures.said
