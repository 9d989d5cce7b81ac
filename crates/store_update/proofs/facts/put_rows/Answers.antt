use Rattle.std.proofs.Common.{◌+◌, [], ◌∷◌, drop, take, map, refl, ap, subst, ◌∙◌, arith}
use Rattle.store_conn.specs.store_model.FactRows.{put_rows}
use Rattle.store_conn.specs.store_model.declared.facts.FactRow.{FactRow}
use Rattle.store_update.proofs.Noted.{noted_more, noted_none, picked_more}
use Rattle.store_update.proofs.Walks.{ids_next, rows_next}
use Rattle.store_update.proofs.facts.put_rows.Goals as goal
use Rattle.store_update.specs.Touched.{ArePicked}

pub rows-init : goal.rows-init
rows-init g c = record {
  records = refl;
  noted = noted_none (g.S.RecordSource.records c.args.draft.source) c.args.draft.noted.items;
  picked = λ number. omega arith;
  looks = omega arith;
  applies = refl;
}

pub rows-preserved : goal.rows-preserved
rows-preserved g c =
    let items = c.args.rows.now in
    let i = c.rows.row-index in
    let item = c.row-item.result in
    let before = g.S.RecordSource.records c.rows.current.source in
    record {
      records = ap (put_rows (drop (i + 1) items)) c.in_ok-current.ensures.records ∙ rows_next items i item before c.rows-test.true c.row-item.is ∙ c.rows.invariant.records;
      noted = noted_more _ _ _ _ _ _ c.rows.invariant.noted c.in_ok-current.ensures.noted;
      picked = subst (λ ids. ArePicked ids c.args.draft.noted.items c.in_ok-current.current.noted.items) (ids_next (λ (r : FactRow). r.id) items i item c.rows-test.true c.row-item.is)
          (picked_more (map (λ (r : FactRow). r.id) (take i items)) (item.id ∷ []) c.args.draft.noted.items c.rows.current.noted.items c.in_ok-current.current.noted.items c.rows.invariant.picked c.in_ok-current.ensures.picked);
      looks = omega (arith, c.rows.invariant.looks, c.put_row.ensures.looks);
      applies = c.put_row.ensures.applies ∙ c.rows.invariant.applies;
    }
