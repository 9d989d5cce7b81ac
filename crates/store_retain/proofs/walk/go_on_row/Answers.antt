-- The paths that were made for the type and the parts lead to what the parts lead to.
use Rattle.std.proofs.Common.{◌<◌, Some, subst, sym, ap, ◌∙◌}
use Rattle.std.proofs.lemmas.Result.{on_ok_weaker}
use Rattle.std.specs.List.{list_any}
use Rattle.plan_ir.specs.store_model.Walks.{field_of, type_of_record}
use Rattle.plan_ir.specs.store_record.declared.record.Slot.TheVariants.{Alive}
use Rattle.store_retain.proofs.AlikeSteps.{follows_alike}
use Rattle.store_retain.proofs.PathSteps.{made_steps, made_within}
use Rattle.store_retain.proofs.walk.go_on_row.Goals as goal
use Rattle.store_retain.specs.PathView.{paths_steps}
use Rattle.store_retain.specs.RoadView.{table_of}
use Rattle.store_retain.specs.Steps.{Alike, row_steps, slots_of}

pub index-there-requires : goal.index-there-requires
index-there-requires g c =
    subst (λ n. c.in_ok-place.place < n) (sym c.place_of.new.self.made.ok.0) (made_within c.place_of.new.self.made.items c.in_ok-place.place c.type_of-object.result.now c.args.numbers.now c.in_ok-place.ensures.place)

pub returns-clause-follows : goal.returns-clause-follows
returns-clause-follows g c =
    let parts = table_of c.args.parts.now in
    let fields = field_of (Some (Alive c.args.row.now)) in
    let made = made_steps parts c.place_of.new.self.made.items c.in_ok-place.place c.index-there.result.now c.type_of-object.result.now c.args.numbers.now c.in_ok-place.ensures.right c.in_ok-place.ensures.place c.index-there.ensures fields in
    let alike : Alike (paths_steps fields c.deref.result.now) (row_steps parts c.args.numbers.now (type_of_record c.args.store.now.root.now c.args.row.now.type_name) fields) =
    λ p.
    ap (λ ps. list_any p (paths_steps fields ps)) c.deref.ensures.value
    ∙ made p
    ∙ ap (λ T. list_any p (row_steps parts c.args.numbers.now T fields)) c.type_of-object.ensures in
    on_ok_weaker c.follow_paths.result (follows_alike (slots_of (g.S.RecordSource.records c.args.store.now.source.now)) c.args.store.now.root.now c.args.found.now c.follow_paths.new.found _ _ alike) c.follow_paths.ensures.follows
