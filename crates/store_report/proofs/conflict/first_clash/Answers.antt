use Rattle.std.proofs.Common.{None, map, option_copied, option_map, sym, ◌∙◌, arith}
use Rattle.store_report.proofs.LoopSteps.{clash_next, clash_here}
use Rattle.store_report.proofs.conflict.first_clash.Goals as goal
use Rattle.store_report.specs.SaidFacts.{put_of, clash_from}

pub facts-preserved : goal.facts-preserved
facts-preserved c =
    clash_next c.args.facts.now c.facts.fact-index c.fact-item.result (omega arith) c.fact-item.is (option_map put_of (option_copied c.facts.before)) (clash_from None (map put_of c.args.facts.now))
    (sym c.clashes.ensures ∙ c.if-clashes.false) c.facts.invariant

pub returns-then-clashes : goal.returns-then-clashes
returns-then-clashes c =
    clash_here c.args.facts.now c.facts.fact-index c.fact-item.result (omega arith) c.fact-item.is (option_map put_of (option_copied c.facts.before)) (clash_from None (map put_of c.args.facts.now))
    (sym c.clashes.ensures ∙ c.if-clashes.true) c.facts.invariant
