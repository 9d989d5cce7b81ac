-- One more name, and no more than are wanted.
use Rattle.std.proofs.Common.{◌+◌, suc, arith}
use Rattle.doc_fields.proofs.BelowSteps.{below_more, none_known}
use Rattle.doc_fields.proofs.below.keys_below.Goals as goal

pub names-init : goal.names-init
names-init c = λ next t own h k m. none_known c.new-below.result _ c.new-below.ensures

pub names-preserved : goal.names-preserved
names-preserved c = λ next t own h. below_more next own (suc c.names.name-index) (c.names.name-index + 1) c.gather.new.self (omega arith) (c.in_ok-gather.ensures next t own h c.names.name-index (c.names.invariant next t own h))

pub returns : goal.returns
returns c = λ next t own h. below_more next own c.names.name-index c.args.count c.names.below (omega arith) (c.names.invariant next t own h)
