-- One notice more, and all of them.
use Rattle.std.proofs.Common.{◌<◌, ◌++◌, List, length, refl, ap, sym, subst, ◌∙◌}
use Rattle.std.specs.List.{AllByRecursion}
use Rattle.line_engine.proofs.TellingLaws.{place_within, told_end, told_step}
use Rattle.line_engine.proofs.telling.with_notices.Goals as goal
use Rattle.line_engine.specs.Notices.{names_of, told_lines}
use Rattle.line_engine.specs.Steps.{written}
use Rattle.store_watch.specs.Watching.{Telling}
use Rattle.store_watch.specs.declared.notices.Notice.{Notice}

pub put_notice-requires : goal.put_notice-requires
put_notice-requires c =
    record {
      within =
          let ws = c.args.watches.now in
          let ns = c.as_slice-notice-items.result.now in
          subst (λ (x : Notice). x.place < length ws) (sym c.notice-item.is)
          (place_within (length ws) ns c.notices.notice-index c.notice-item.result
          (subst (λ (ts : List Telling). AllByRecursion (λ (t : Telling). t.place < length ws) ts) (sym c.as_slice-notice-items.ensures) c.requires.within) c.notices-test.true);
    }

pub notices-preserved : goal.notices-preserved
notices-preserved c = record {
  text =
      told_step (names_of c.args.watches.now) c.args.n c.as_slice-notice-items.result.now c.notices.notice-index c.notice-item.result
      (written c.notices.texts.items) (written c.put_notice.new.texts.items) _ c.notices-test.true c.notice-item.is c.notices.invariant.text c.in_ok-put_notice.ensures.text;
  single = λ all. c.in_ok-put_notice.ensures.single (c.notices.invariant.single all);
}

pub returns-clause-text : goal.returns-clause-text
returns-clause-text c =
    told_end (names_of c.args.watches.now) c.args.n c.as_slice-notice-items.result.now c.notices.notice-index (written c.notices.texts.items) _ c.notices-test.false c.notices.invariant.text
    ∙ ap (λ ts. written c.args.answer.texts.items ++ told_lines (names_of c.args.watches.now) c.args.n ts) c.as_slice-notice-items.ensures

pub returns-clause-single : goal.returns-clause-single
returns-clause-single c = c.notices.invariant.single

pub notices-init : goal.notices-init
notices-init c = record { text = refl; single = λ all. all }
