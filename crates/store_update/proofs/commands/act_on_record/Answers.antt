use Rattle.std.proofs.Common.{◌∷◌, [], ap, subst, ◌∙◌, option_copied}
use Rattle.std.specs.FinMap as finmap
use Rattle.store_update.proofs.Noted.{noted_change, picked_change}
use Rattle.store_update.proofs.Runs.{run_is}
use Rattle.store_update.proofs.commands.act_on_record.Goals as goal
use Rattle.store_update.specs.Slots.{slot_by_commands, with_change}
use Rattle.store_update.specs.Touched.{ArePicked, noted}

pub returns-clause-records : goal.returns-clause-records
returns-clause-records g c =
    let before = g.S.RecordSource.records c.args.draft.source in
    let same = c.get-found.ensures.found ∙ ap (finmap.get before) (c.as_str.ensures ∙ c.id_of-id.ensures) in
    c.in_ok-after.ensures.records ∙ ap (λ id. with_change id c.new_slot_of-change.result before) c.id_of-id.ensures
    ∙ run_is c.args.first.now c.args.behind.now before (option_copied c.get-found.result) c.new_slot_of-change.result c.requires.record c.requires.run same
    (c.new_slot_of-change.ensures.same ∙ c.in_ok-made.ensures ∙ ap (slot_by_commands c.args.behind.now) c.in_ok-begun.ensures)

pub returns-clause-noted : goal.returns-clause-noted
returns-clause-noted g c =
    let before = g.S.RecordSource.records c.args.draft.source in
    let same = c.get-found.ensures.found ∙ ap (finmap.get before) c.as_str.ensures in
    rw (c.in_ok-after.ensures.records, c.in_ok-after.ensures.noted)
    (noted_change c.id_of-id.result.now (option_copied c.get-found.result) c.new_slot_of-change.result before c.args.draft.noted.items same c.new_slot_of-change.ensures.new)

pub returns-clause-picked : goal.returns-clause-picked
returns-clause-picked g c =
    let id = c.id_of-id.result.now in
    let change = c.new_slot_of-change.result in
    let ids = c.args.draft.noted.items in
    rw c.in_ok-after.ensures.noted (subst (λ one. ArePicked (one ∷ []) ids (noted id change ids)) c.id_of-id.ensures (picked_change id change ids))
