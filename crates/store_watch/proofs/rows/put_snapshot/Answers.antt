use Rattle.std.proofs.Common.{◌≡◌, sym, ◌∙◌}
use Rattle.std.specs.Map.{values_of}
use Rattle.store_watch.proofs.Named.{ids_here, number_here, set_is, texts_same}
use Rattle.store_watch.proofs.rows.put_snapshot.Goals as goal

pub returns-then-is_same-clause-rows : goal.returns-then-is_same-clause-rows
returns-then-is_same-clause-rows c = set_is c.args.rows.now.entries c.args.place c.index_mut-row.result.now c.args.snapshot c.index_mut-row.ensures.value

pub returns-then-is_same-clause-number : goal.returns-then-is_same-clause-number
returns-then-is_same-clause-number c =
    let row = c.index_mut-row.result.now in
    sym (texts_same row.kept.seen c.args.snapshot.seen (sym c.eq-is_same.ensures ∙ c.if-is_same.true)) ∙ ids_here (values_of c.args.rows.now.entries) c.args.place row c.index_mut-row.ensures.value

pub returns-clause-rows : goal.returns-clause-rows
returns-clause-rows c = set_is c.args.rows.now.entries c.args.place c.index_mut-row.result.now c.args.snapshot c.index_mut-row.ensures.value

pub returns-clause-number : goal.returns-clause-number
returns-clause-number c = number_here (values_of c.args.rows.now.entries) c.args.place c.index_mut-row.result.now c.index_mut-row.ensures.value
