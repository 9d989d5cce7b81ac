-- One more name.
use Rattle.std.proofs.Common.{ap, ◌∙◌, arith}
use Rattle.schema_rules.proofs.InheritedSteps.{none_here, none_after}
use Rattle.schema_rules.proofs.rules.inherited.put_all.Goals as goal

pub names-preserved : goal.names-preserved
names-preserved c = (
  λ such h e. c.in_ok-put.ensures such (c.names.invariant.0 such h e)
      (ap such c.as_str.ensures ∙ none_here such c.args.names.now c.names.name-index c.name-item.result (omega arith) c.name-item.is (c.names.invariant.1 such e)),
  λ such e. none_after such c.args.names.now c.names.name-index c.name-item.result (omega arith) (c.names.invariant.1 such e),
)

pub returns : goal.returns
returns c = λ such h e. c.names.invariant.0 such h e
