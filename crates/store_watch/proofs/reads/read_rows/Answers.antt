use Rattle.std.proofs.Common.{◌≡◌, ◌+◌, ◌≤◌, get_or, ◌∙◌, arith}
use Rattle.store_read.specs.Reading.{slots}
use Rattle.store_watch.proofs.Held.{item_is}
use Rattle.store_watch.proofs.Told.{told_step, told_end, work_step}
use Rattle.store_watch.specs.Rows.{tellings_of}
use Rattle.store_watch.proofs.reads.read_rows.Goals as goal

pub places-preserved : goal.places-preserved
places-preserved g c =
    let m = slots (g.S.RecordSource.records c.args.view.now) in
    let rows = c.args.rows.now in
    let places = c.args.places.now in
    let at = c.places.place-index in
    let one = work_step m rows places at (get_or places at 0) c.places-test.true (item_is places at 0 c.places-test.true) in
    let past = c.places.invariant.looks in
    let now = c.put_notice.ensures.looks in
    record {
      told = told_step m rows places at (get_or places at 0) (tellings_of c.places.notices.items) (tellings_of c.put_notice.new.notices.items) _ c.places-test.true (item_is places at 0 c.places-test.true)
          c.places.invariant.told c.in_ok-put_notice.ensures.notices;
      looks = omega (arith, one, past, now);
      applies = c.put_notice.ensures.applies ∙ c.places.invariant.applies;
    }

pub returns-in_err-put_notice-clause-looks : goal.returns-in_err-put_notice-clause-looks
returns-in_err-put_notice-clause-looks g c =
    let m = slots (g.S.RecordSource.records c.args.view.now) in
    let places = c.args.places.now in
    let at = c.places.place-index in
    let one = work_step m c.args.rows.now places at (get_or places at 0) c.places-test.true (item_is places at 0 c.places-test.true) in
    let past = c.places.invariant.looks in
    let now = c.put_notice.ensures.looks in
    omega (arith, one, past, now)

pub returns-in_err-put_notice-clause-applies : goal.returns-in_err-put_notice-clause-applies
returns-in_err-put_notice-clause-applies g c = c.put_notice.ensures.applies ∙ c.places.invariant.applies

pub returns-clause-notices : goal.returns-clause-notices
returns-clause-notices g c =
    told_end (slots (g.S.RecordSource.records c.args.view.now)) c.args.rows.now c.args.places.now c.places.place-index (tellings_of c.places.notices.items) _ c.places-test.false c.places.invariant.told

pub returns-clause-looks : goal.returns-clause-looks
returns-clause-looks g c = let past = c.places.invariant.looks in omega (arith, past)

pub returns-clause-applies : goal.returns-clause-applies
returns-clause-applies g c = c.places.invariant.applies
