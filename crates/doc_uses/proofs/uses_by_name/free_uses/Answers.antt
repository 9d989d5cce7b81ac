-- One more use, and all of them.
use Rattle.std.proofs.Common.{arith}
use Rattle.doc_uses.specs.Parts.{free_use}
use Rattle.doc_uses.specs.UseView.{use_of}
use Rattle.doc_sites.proofs.ListSteps.{collect_next, collect_end}
use Rattle.doc_uses.proofs.uses_by_name.free_uses.Goals as goal

pub uses-preserved : goal.uses-preserved
uses-preserved c = λ ns k.
    collect_next use_of (free_use ns) c.args.uses.now c.uses.one-index c.one-item.result _ _ _ (omega arith) c.one-item.is (c.in_ok-put_free.ensures ns k) (c.uses.invariant ns k)

pub returns : goal.returns
returns c = λ ns k. collect_end use_of (free_use ns) c.args.uses.now c.uses.one-index _ _ (omega arith) (c.uses.invariant ns k)
