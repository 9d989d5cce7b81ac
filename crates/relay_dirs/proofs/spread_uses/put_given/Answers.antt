-- One more argument, and all of them.
use Rattle.std.proofs.Common.{arith}
use Rattle.doc_uses.specs.doc_sites.SitesView.{argument_of}
use Rattle.relay_rules.specs.Spreads.{uses_of_given}
use Rattle.doc_uses.proofs.doc_sites_laws.ListSteps.{collect_next, collect_end}
use Rattle.relay_dirs.proofs.spread_uses.put_given.Goals as goal

pub given-preserved : goal.given-preserved
given-preserved c = λ ls f.
    collect_next argument_of (uses_of_given c.args.schema.now c.args.at ls) c.args.given.now c.given.argument-index c.argument-item.result _ _ _ (omega arith) c.argument-item.is
    (c.in_ok-put_given_to.ensures ls f) (c.given.invariant ls f)

pub returns : goal.returns
returns c = λ ls f. collect_end argument_of (uses_of_given c.args.schema.now c.args.at ls) c.args.given.now c.given.argument-index _ _ (omega arith) (c.given.invariant ls f)
