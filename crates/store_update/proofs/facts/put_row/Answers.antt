use Rattle.std.proofs.Common.{ap, ◌∙◌, option_copied}
use Rattle.std.specs.FinMap as finmap
use Rattle.store_update.proofs.Noted.{noted_change, picked_change}
use Rattle.store_update.proofs.Runs.{row_run_is}
use Rattle.store_update.proofs.facts.put_row.Goals as goal
use Rattle.store_update.specs.Slots.{slot_by_commands}

pub returns-clause-records : goal.returns-clause-records
returns-clause-records g c =
    let before = g.S.RecordSource.records c.args.draft.source in
    let same = c.get-found.ensures.found ∙ ap (finmap.get before) c.as_str.ensures in
    c.in_ok-after.ensures.records
    ∙ row_run_is c.args.row.now c.args.commands.now before (option_copied c.get-found.result) c.new_slot_of-change.result c.requires same
    (c.new_slot_of-change.ensures.same ∙ c.in_ok-made.ensures ∙ ap (slot_by_commands c.args.commands.now) c.in_ok-put.ensures)

pub returns-clause-noted : goal.returns-clause-noted
returns-clause-noted g c =
    let before = g.S.RecordSource.records c.args.draft.source in
    let same = c.get-found.ensures.found ∙ ap (finmap.get before) c.as_str.ensures in
    rw (c.in_ok-after.ensures.records, c.in_ok-after.ensures.noted)
    (noted_change c.args.row.now.id (option_copied c.get-found.result) c.new_slot_of-change.result before c.args.draft.noted.items same c.new_slot_of-change.ensures.new)

pub returns-clause-picked : goal.returns-clause-picked
returns-clause-picked g c = rw c.in_ok-after.ensures.noted (picked_change c.args.row.now.id c.new_slot_of-change.result c.args.draft.noted.items)
