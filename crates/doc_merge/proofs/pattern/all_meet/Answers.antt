-- One more level, or the end of one of them.
use Rattle.std.proofs.Common.{sym, ◌∙◌, arith}
use Rattle.doc_merge.proofs.PatternSteps.{meet_end, meet_next, meet_not, meet_short}
use Rattle.doc_merge.proofs.pattern.all_meet.Goals as goal

pub returns-then-at-others : goal.returns-then-at-others
returns-then-at-others c = meet_short c.args.ones.now c.args.others.now c.levels.at _ (omega arith) c.levels.invariant.1

pub returns-then-not-meet : goal.returns-then-not-meet
returns-then-not-meet c =
    meet_not c.args.ones.now c.args.others.now c.levels.at _ _ _ (omega arith) (omega arith)
    (sym c.meet.ensures ∙ c.if-not-meet.true) c.levels.invariant.1

pub levels-preserved : goal.levels-preserved
levels-preserved c = (
  omega arith,
  meet_next c.args.ones.now c.args.others.now c.levels.at _ _ _ (omega arith) (omega arith)
      (sym c.meet.ensures ∙ c.if-not-meet.false) c.levels.invariant.1,
)

pub returns : goal.returns
returns c = meet_end c.args.ones.now c.args.others.now c.levels.at _ (omega arith) c.levels.invariant.1
