-- One more use, and all of them.
use Rattle.std.proofs.Common.{◌≡◌, true, arith}
use Rattle.doc_uses.proofs.NeedSteps.{harmless_end, harmless_next}
use Rattle.doc_uses.proofs.wrong_uses.are_harmless.Goals as goal

pub uses-init : goal.uses-init
uses-init c = λ vs t h. h

pub uses-preserved : goal.uses-preserved
uses-preserved c = λ vs t h.
    let is_good : c.is_harmless.result ≡ true = grind arith in
    c.uses.invariant vs t (harmless_next vs c.args.least.now.at c.args.uses.now c.uses.one-index c.one-item.result (omega arith) c.one-item.is (c.is_harmless.ensures vs t is_good) h)

pub returns : goal.returns
returns c = λ vs t e. c.uses.invariant vs t (harmless_end vs c.args.least.now.at c.args.uses.now c.uses.one-index (omega arith))
