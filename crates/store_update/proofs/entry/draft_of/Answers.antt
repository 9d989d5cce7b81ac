use Rattle.std.proofs.Common.{◌≡◌, ◌++◌, [], length, map, refl, sym, ap, subst, ◌∙◌, arith, rules}
use Rattle.std.proofs.lemmas.List.{length-map}
use Rattle.store_conn.specs.store_model.Entries.{asked_by_pages, merge_all, weights}
use Rattle.store_conn.specs.store_model.FactRows.{facts_of, put_rows}
use Rattle.store_conn.specs.store_model.Updates.{act_all}
use Rattle.store_conn.specs.store_model.declared.facts.FactRow.{FactRow}
use Rattle.store_update.proofs.Entries.{entry_acts, entry_weighs, no_pages, turns_are, turns_count}
use Rattle.store_update.proofs.Noted.{noted_more, picked_few, picked_more}
use Rattle.store_update.proofs.Turns.{later_of_record}
use Rattle.store_update.proofs.entry.draft_of.Goals as goal
use Rattle.store_update.specs.Slots.{id_of}
use Rattle.store_update.specs.Touched.{AreNoted, ArePicked}
use Rattle.store_update.specs.Turns.{turns}

pub returns-in_err-put-clause-looks : goal.returns-in_err-put-clause-looks
returns-in_err-put-clause-looks g c =
    let e = c.args.entry.now in
    let m = g.S.RecordSource.records c.args.source.now in
    let rows = c.rows-rows.result.now in
    let handles = c.as_slice-handles.result.now in
    let first = c.parted.result.0.now in
    let later = c.parted.result.1.now in
    let facts : facts_of rows ≡ e.facts.facts = search rules in
    let same : handles ≡ e.facts.handles = search rules in
    let commands : c.as_slice.result.now ≡ e.commands = search rules in
    let whole : e.commands ≡ first ++ later = sym commands ∙ c.parted.ensures.whole in
    let on = act_all first (put_rows rows m) in
    omega (arith, entry_weighs e m rows handles first later facts c.rows-rows.ensures.order same whole c.parted.ensures.apart on (merge_all handles on) refl refl, c.put_facts.ensures.looks)

pub returns-in_err-merged-clause-looks : goal.returns-in_err-merged-clause-looks
returns-in_err-merged-clause-looks g c =
    let e = c.args.entry.now in
    let m = g.S.RecordSource.records c.args.source.now in
    let rows = c.rows-rows.result.now in
    let handles = c.as_slice-handles.result.now in
    let first = c.parted.result.0.now in
    let later = c.parted.result.1.now in
    let facts : facts_of rows ≡ e.facts.facts = search rules in
    let same : handles ≡ e.facts.handles = search rules in
    let commands : c.as_slice.result.now ≡ e.commands = search rules in
    let whole : e.commands ≡ first ++ later = sym commands ∙ c.parted.ensures.whole in
    let after = g.S.RecordSource.records c.in_ok-put.put.source in
    let acted : after ≡ act_all first (put_rows rows m) = c.in_ok-put.ensures.records ∙ ap (λ r. act_all first (put_rows rows r)) c.in_ok-version.ensures in
    omega (arith, entry_weighs e m rows handles first later facts c.rows-rows.ensures.order same whole c.parted.ensures.apart after (merge_all handles after) acted refl, c.put_facts.ensures.looks, c.put_pages.ensures.looks)

pub returns-in_err-acted-clause-looks : goal.returns-in_err-acted-clause-looks
returns-in_err-acted-clause-looks g c =
    let e = c.args.entry.now in
    let m = g.S.RecordSource.records c.args.source.now in
    let rows = c.rows-rows.result.now in
    let handles = c.as_slice-handles.result.now in
    let first = c.parted.result.0.now in
    let later = c.parted.result.1.now in
    let facts : facts_of rows ≡ e.facts.facts = search rules in
    let same : handles ≡ e.facts.handles = search rules in
    let commands : c.as_slice.result.now ≡ e.commands = search rules in
    let whole : e.commands ≡ first ++ later = sym commands ∙ c.parted.ensures.whole in
    let after = g.S.RecordSource.records c.in_ok-put.put.source in
    let acted : after ≡ act_all first (put_rows rows m) = c.in_ok-put.ensures.records ∙ ap (λ r. act_all first (put_rows rows r)) c.in_ok-version.ensures in
    let merged = g.S.RecordSource.records c.in_ok-merged.merged.source in
    omega (arith, entry_weighs e m rows handles first later facts c.rows-rows.ensures.order same whole c.parted.ensures.apart after merged acted c.in_ok-merged.ensures.records, c.put_facts.ensures.looks, c.put_pages.ensures.looks, c.act_all.ensures.looks)

pub returns-clause-looks : goal.returns-clause-looks
returns-clause-looks g c =
    let e = c.args.entry.now in
    let m = g.S.RecordSource.records c.args.source.now in
    let rows = c.rows-rows.result.now in
    let handles = c.as_slice-handles.result.now in
    let first = c.parted.result.0.now in
    let later = c.parted.result.1.now in
    let facts : facts_of rows ≡ e.facts.facts = search rules in
    let same : handles ≡ e.facts.handles = search rules in
    let commands : c.as_slice.result.now ≡ e.commands = search rules in
    let whole : e.commands ≡ first ++ later = sym commands ∙ c.parted.ensures.whole in
    let after = g.S.RecordSource.records c.in_ok-put.put.source in
    let acted : after ≡ act_all first (put_rows rows m) = c.in_ok-put.ensures.records ∙ ap (λ r. act_all first (put_rows rows r)) c.in_ok-version.ensures in
    let merged = g.S.RecordSource.records c.in_ok-merged.merged.source in
    omega (arith, entry_weighs e m rows handles first later facts c.rows-rows.ensures.order same whole c.parted.ensures.apart after merged acted c.in_ok-merged.ensures.records, c.put_facts.ensures.looks, c.put_pages.ensures.looks, c.act_all.ensures.looks)

pub returns-in_err-put-clause-turns : goal.returns-in_err-put-clause-turns
returns-in_err-put-clause-turns g c of =
    let e = c.args.entry.now in
    let m = g.S.RecordSource.records c.args.source.now in
    let rows = c.rows-rows.result.now in
    let handles = c.as_slice-handles.result.now in
    let first = c.parted.result.0.now in
    let later = c.parted.result.1.now in
    let facts : facts_of rows ≡ e.facts.facts = search rules in
    let same : handles ≡ e.facts.handles = search rules in
    let commands : c.as_slice.result.now ≡ e.commands = search rules in
    let whole : e.commands ≡ first ++ later = sym commands ∙ c.parted.ensures.whole in
    omega (arith, turns_count e m rows handles first later facts c.rows-rows.ensures.order same whole of c.parted.ensures.first c.parted.ensures.longest, c.put_facts.ensures.looks)

pub returns-in_err-merged-clause-turns : goal.returns-in_err-merged-clause-turns
returns-in_err-merged-clause-turns g c of =
    let e = c.args.entry.now in
    let m = g.S.RecordSource.records c.args.source.now in
    let rows = c.rows-rows.result.now in
    let handles = c.as_slice-handles.result.now in
    let first = c.parted.result.0.now in
    let later = c.parted.result.1.now in
    let facts : facts_of rows ≡ e.facts.facts = search rules in
    let same : handles ≡ e.facts.handles = search rules in
    let commands : c.as_slice.result.now ≡ e.commands = search rules in
    let whole : e.commands ≡ first ++ later = sym commands ∙ c.parted.ensures.whole in
    let none = ap (λ hs. weights (asked_by_pages hs (g.S.RecordSource.records c.in_ok-put.put.source))) (no_pages e m rows handles first later facts c.rows-rows.ensures.order same whole of c.parted.ensures.first c.parted.ensures.longest) in
    omega (arith, turns_count e m rows handles first later facts c.rows-rows.ensures.order same whole of c.parted.ensures.first c.parted.ensures.longest, c.put_facts.ensures.looks, c.put_pages.ensures.looks, none)

pub returns-in_err-acted-clause-turns : goal.returns-in_err-acted-clause-turns
returns-in_err-acted-clause-turns g c of =
    let e = c.args.entry.now in
    let m = g.S.RecordSource.records c.args.source.now in
    let rows = c.rows-rows.result.now in
    let handles = c.as_slice-handles.result.now in
    let first = c.parted.result.0.now in
    let later = c.parted.result.1.now in
    let facts : facts_of rows ≡ e.facts.facts = search rules in
    let same : handles ≡ e.facts.handles = search rules in
    let commands : c.as_slice.result.now ≡ e.commands = search rules in
    let whole : e.commands ≡ first ++ later = sym commands ∙ c.parted.ensures.whole in
    let none = ap (λ hs. weights (asked_by_pages hs (g.S.RecordSource.records c.in_ok-put.put.source))) (no_pages e m rows handles first later facts c.rows-rows.ensures.order same whole of c.parted.ensures.first c.parted.ensures.longest) in
    let own = c.act_all.ensures.turns (later_of_record e rows first later facts whole of.1) in
    omega (arith, turns_count e m rows handles first later facts c.rows-rows.ensures.order same whole of c.parted.ensures.first c.parted.ensures.longest, c.put_facts.ensures.looks, c.put_pages.ensures.looks, own, none)

pub returns-clause-turns : goal.returns-clause-turns
returns-clause-turns g c of =
    let e = c.args.entry.now in
    let m = g.S.RecordSource.records c.args.source.now in
    let rows = c.rows-rows.result.now in
    let handles = c.as_slice-handles.result.now in
    let first = c.parted.result.0.now in
    let later = c.parted.result.1.now in
    let facts : facts_of rows ≡ e.facts.facts = search rules in
    let same : handles ≡ e.facts.handles = search rules in
    let commands : c.as_slice.result.now ≡ e.commands = search rules in
    let whole : e.commands ≡ first ++ later = sym commands ∙ c.parted.ensures.whole in
    let none = ap (λ hs. weights (asked_by_pages hs (g.S.RecordSource.records c.in_ok-put.put.source))) (no_pages e m rows handles first later facts c.rows-rows.ensures.order same whole of c.parted.ensures.first c.parted.ensures.longest) in
    let own = c.act_all.ensures.turns (later_of_record e rows first later facts whole of.1) in
    omega (arith, turns_count e m rows handles first later facts c.rows-rows.ensures.order same whole of c.parted.ensures.first c.parted.ensures.longest, c.put_facts.ensures.looks, c.put_pages.ensures.looks, own, none)

pub returns-clause-records : goal.returns-clause-records
returns-clause-records g c =
    let e = c.args.entry.now in
    let m = g.S.RecordSource.records c.args.source.now in
    let rows = c.rows-rows.result.now in
    let handles = c.as_slice-handles.result.now in
    let first = c.parted.result.0.now in
    let later = c.parted.result.1.now in
    let facts : facts_of rows ≡ e.facts.facts = search rules in
    let same : handles ≡ e.facts.handles = search rules in
    let commands : c.as_slice.result.now ≡ e.commands = search rules in
    let whole : e.commands ≡ first ++ later = sym commands ∙ c.parted.ensures.whole in
    let after = g.S.RecordSource.records c.in_ok-put.put.source in
    let acted : after ≡ act_all first (put_rows rows m) = c.in_ok-put.ensures.records ∙ ap (λ r. act_all first (put_rows rows r)) c.in_ok-version.ensures in
    let merged = g.S.RecordSource.records c.in_ok-merged.merged.source in
    c.in_ok-acted.ensures.records ∙ entry_acts e m rows handles first later facts c.rows-rows.ensures.order same whole c.parted.ensures.apart after merged acted c.in_ok-merged.ensures.records

pub returns-clause-noted : goal.returns-clause-noted
returns-clause-noted g c =
    let acted = c.in_ok-acted.acted in
    subst (λ r. AreNoted r (g.S.RecordSource.records acted.source) [] acted.noted.items) c.in_ok-version.ensures
    (subst (λ ids. AreNoted (g.S.RecordSource.records c.in_ok-version.version) (g.S.RecordSource.records acted.source) ids acted.noted.items) c.new.ensures.items
    (noted_more _ _ _ _ _ _ (noted_more _ _ _ _ _ _ c.in_ok-put.ensures.noted c.in_ok-merged.ensures.noted) c.in_ok-acted.ensures.noted))

pub returns-clause-few : goal.returns-clause-few
returns-clause-few g c =
    let e = c.args.entry.now in
    let m = g.S.RecordSource.records c.args.source.now in
    let rows = c.rows-rows.result.now in
    let handles = c.as_slice-handles.result.now in
    let first = c.parted.result.0.now in
    let later = c.parted.result.1.now in
    let facts : facts_of rows ≡ e.facts.facts = search rules in
    let same : handles ≡ e.facts.handles = search rules in
    let commands : c.as_slice.result.now ≡ e.commands = search rules in
    let whole : e.commands ≡ first ++ later = sym commands ∙ c.parted.ensures.whole in
    let after = g.S.RecordSource.records c.in_ok-put.put.source in
    let acted : after ≡ act_all first (put_rows rows m) = c.in_ok-put.ensures.records ∙ ap (λ r. act_all first (put_rows rows r)) c.in_ok-version.ensures in
    let merged = g.S.RecordSource.records c.in_ok-merged.merged.source in
    let none = ap length c.new.ensures.items in
    omega (
      arith,
      entry_weighs e m rows handles first later facts c.rows-rows.ensures.order same whole c.parted.ensures.apart after merged acted c.in_ok-merged.ensures.records,
      none,
      picked_few (map (λ (r : FactRow). r.id) rows) c.new.result.items c.in_ok-put.put.noted.items c.in_ok-put.ensures.picked,
      length-map rows (λ (r : FactRow). r.id),
      c.in_ok-merged.ensures.few,
      c.in_ok-acted.ensures.few,
    )

pub returns-clause-picked : goal.returns-clause-picked
returns-clause-picked g c of =
    let e = c.args.entry.now in
    let m = g.S.RecordSource.records c.args.source.now in
    let rows = c.rows-rows.result.now in
    let handles = c.as_slice-handles.result.now in
    let first = c.parted.result.0.now in
    let later = c.parted.result.1.now in
    let facts : facts_of rows ≡ e.facts.facts = search rules in
    let same : handles ≡ e.facts.handles = search rules in
    let commands : c.as_slice.result.now ≡ e.commands = search rules in
    let whole : e.commands ≡ first ++ later = sym commands ∙ c.parted.ensures.whole in
    let put = c.in_ok-put.put.noted.items in
    let ids = c.in_ok-acted.acted.noted.items in
    let of_rows : ArePicked (map (λ (r : FactRow). r.id) rows) [] put = subst (λ old. ArePicked (map (λ (r : FactRow). r.id) rows) old put) c.new.ensures.items c.in_ok-put.ensures.picked in
    let own = c.in_ok-acted.ensures.picked (later_of_record e rows first later facts whole of.1) in
    let of_commands : ArePicked (turns (map id_of later)) put ids = subst (λ old. ArePicked (turns (map id_of later)) old ids) (c.in_ok-merged.ensures.none (no_pages e m rows handles first later facts c.rows-rows.ensures.order same whole of c.parted.ensures.first c.parted.ensures.longest)) own in
    subst (λ picked. ArePicked picked [] ids) (sym (turns_are e m rows handles first later facts c.rows-rows.ensures.order same whole of c.parted.ensures.first c.parted.ensures.longest)) (picked_more (map (λ (r : FactRow). r.id) rows) (turns (map id_of later)) [] put ids of_rows of_commands)
