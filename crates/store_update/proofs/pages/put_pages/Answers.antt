use Rattle.std.proofs.Common.{◌+◌, drop, length, refl, ap, ◌∙◌, arith}
use Rattle.store_conn.specs.store_model.Entries.{asked_by_pages, merge_all, weights}
use Rattle.store_update.proofs.Noted.{noted_more, noted_none}
use Rattle.store_update.proofs.Walks.{merges_next, pages_weigh}
use Rattle.store_update.proofs.pages.put_pages.Goals as goal

pub pages-init : goal.pages-init
pages-init g c = record {
  records = refl;
  noted = noted_none (g.S.RecordSource.records c.args.draft.source) c.args.draft.noted.items;
  none = λ none. refl;
  few = omega arith;
  looks = omega arith;
  applies = refl;
}

pub pages-preserved : goal.pages-preserved
pages-preserved g c =
    let items = c.args.handles.now in
    let i = c.pages.handle-index in
    let item = c.handle-item.result in
    let before = g.S.RecordSource.records c.pages.current.source in
    let weighs = pages_weigh items i item before c.pages-test.true c.handle-item.is in
    let rest = ap (λ m. weights (asked_by_pages (drop (i + 1) items) m)) c.in_ok-current.ensures.records in
    record {
      records = ap (merge_all (drop (i + 1) items)) c.in_ok-current.ensures.records ∙ merges_next items i item before c.pages-test.true c.handle-item.is ∙ c.pages.invariant.records;
      noted = noted_more _ _ _ _ _ _ c.pages.invariant.noted c.in_ok-current.ensures.noted;
      none = λ none. absurd (omega (arith, c.pages-test.true, ap length none));
      few = omega (arith, c.pages.invariant.few, c.in_ok-current.ensures.few, weighs, rest);
      looks = omega (arith, c.pages.invariant.looks, c.put_page.ensures.looks, weighs, rest);
      applies = c.put_page.ensures.applies ∙ c.pages.invariant.applies;
    }

pub returns-clause-few : goal.returns-clause-few
returns-clause-few g c = omega (arith, c.pages.invariant.few)

pub returns-clause-looks : goal.returns-clause-looks
returns-clause-looks g c = omega (arith, c.pages.invariant.looks)

pub returns-in_err-current-clause-looks : goal.returns-in_err-current-clause-looks
returns-in_err-current-clause-looks g c =
    let weighs = pages_weigh c.args.handles.now c.pages.handle-index c.handle-item.result (g.S.RecordSource.records c.pages.current.source) c.pages-test.true c.handle-item.is in
    omega (arith, c.pages.invariant.looks, c.put_page.ensures.looks, weighs)
