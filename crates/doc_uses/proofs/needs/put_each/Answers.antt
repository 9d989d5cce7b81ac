-- One more use, and all of them.
use Rattle.std.proofs.Common.{true≢false, sym, arith}
use Rattle.doc_uses.proofs.NeedSteps.{put_end, put_next}
use Rattle.doc_uses.proofs.needs.put_each.Goals as goal

pub uses-init : goal.uses-init
uses-init c = λ vs o e. e

pub uses-preserved : goal.uses-preserved
uses-preserved c = put_next c.args.uses.now c.uses.one-index c.one-item.result _ _ _ (omega arith) c.one-item.is c.in_ok-put.ensures c.uses.invariant

pub returns-then-len-gt-MOST : goal.returns-then-len-gt-MOST
returns-then-len-gt-MOST c = λ e. absurd (true≢false (sym e))

pub returns : goal.returns
returns c = λ e. put_end c.args.uses.now c.uses.one-index _ _ (omega arith) c.uses.invariant
