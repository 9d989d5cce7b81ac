-- The field stands here, or in what is left, or nowhere.
use Rattle.std.proofs.Common.{sym, ◌∙◌, arith}
use Rattle.plan_expand.proofs.AdditionSteps.{bare_end, bare_here, bare_next}
use Rattle.plan_expand.proofs.additions.has_bare.Goals as goal

pub selections-preserved : goal.selections-preserved
selections-preserved c = (
  c.selections.invariant.0,
  c.selections.invariant.1
      ∙ bare_next c.args.name.now c.as_slice-selection-items.result.now c.selections.selection-index c.selection-item.result (omega arith) c.selection-item.is (sym c.is_bare.ensures ∙ c.if-is_bare.false),
)

pub returns-then-is_bare : goal.returns-then-is_bare
returns-then-is_bare c =
    sym (c.selections.invariant.1
    ∙ bare_here c.args.name.now c.as_slice-selection-items.result.now c.selections.selection-index c.selection-item.result (omega arith) c.selection-item.is (sym c.is_bare.ensures ∙ c.if-is_bare.true))

pub returns : goal.returns
returns c = sym (c.selections.invariant.1 ∙ bare_end c.args.name.now c.as_slice-selection-items.result.now c.selections.selection-index (omega arith))
