-- This one has an object type, or none so far has one.
use Rattle.std.proofs.Common.{arith}
use Rattle.doc_merge.proofs.PatternSteps.{parent_here, parent_not}
use Rattle.doc_merge.proofs.pattern.first_parent.Goals as goal

pub returns-then-is_some : goal.returns-then-is_some
returns-then-is_some c = parent_here c.args.group.now c.rows.row-index c.row-item.result _ (omega arith) c.row-item.is (grind (arith, c.is_some.ensures)) c.rows.invariant

pub rows-preserved : goal.rows-preserved
rows-preserved c = parent_not c.args.group.now c.rows.row-index c.row-item.result _ (omega arith) c.row-item.is (grind (arith, c.is_some.ensures)) c.rows.invariant
