use Rattle.std.proofs.Common.{refl, arith}
use Rattle.store_model.specs.Entries.{named_by_facts}
use Rattle.store_model.specs.FactRows.{facts_of, facts_of_row}
use Rattle.store_sweeps.proofs.NamedIds.{rows_cons}
use Rattle.store_sweeps.proofs.Written.{noted_next, noted_end}
use Rattle.store_sweeps.proofs.naming.put_named_by_rows.Goals as goal

pub rows-preserved : goal.rows-preserved
rows-preserved c = λ j.
    noted_next (λ r. named_by_facts (facts_of_row r)) (λ rs. named_by_facts (facts_of rs)) rows_cons c.args.rows.now c.rows.row-index c.row-item.result c.rows.ids.items c.put_named_by_row.new.ids.items _ j
    (omega arith) c.row-item.is (c.in_ok-put_named_by_row.ensures j) (c.rows.invariant j)

pub returns : goal.returns
returns c = λ j. noted_end (λ r. named_by_facts (facts_of_row r)) (λ rs. named_by_facts (facts_of rs)) rows_cons refl c.args.rows.now c.rows.row-index c.rows.ids.items _ j (omega arith) (c.rows.invariant j)
