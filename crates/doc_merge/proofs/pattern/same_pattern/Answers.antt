-- One more level, or the end of both; where they are not as long they are not the same.
use Rattle.std.proofs.Common.{sym, ◌∙◌, arith}
use Rattle.doc_merge.proofs.PatternSteps.{same_end, same_lengths, same_next, same_not}
use Rattle.doc_merge.proofs.pattern.same_pattern.Goals as goal

pub returns-then-ones-others : goal.returns-then-ones-others
returns-then-ones-others c = sym (same_lengths c.args.ones.now c.args.others.now (λ e. c.if-ones-others.true (omega arith)))

pub returns-then-not-same_parent : goal.returns-then-not-same_parent
returns-then-not-same_parent c =
    same_not c.args.ones.now c.args.others.now c.levels.at _ _ _ (omega arith) (omega (arith, c.levels.invariant.as_long))
    (sym c.same_parent.ensures ∙ c.if-not-same_parent.true) c.levels.invariant.left

pub levels-preserved : goal.levels-preserved
levels-preserved c = record {
  within = omega arith;
  as_long = c.levels.invariant.as_long;
  left = same_next c.args.ones.now c.args.others.now c.levels.at _ _ _ (omega arith) (omega (arith, c.levels.invariant.as_long))
      (sym c.same_parent.ensures ∙ c.if-not-same_parent.false) c.levels.invariant.left;
}

pub returns : goal.returns
returns c = same_end c.args.ones.now c.args.others.now c.levels.at _ (omega arith) (omega (arith, c.levels.invariant.as_long)) c.levels.invariant.left
