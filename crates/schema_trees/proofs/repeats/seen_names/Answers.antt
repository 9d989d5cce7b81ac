-- One more name.
use Rattle.std.proofs.Common.{[], arith}
use Rattle.schema_trees.proofs.RepeatSteps.{known_next}
use Rattle.schema_trees.proofs.repeats.seen_names.Goals as goal

pub names-preserved : goal.names-preserved
names-preserved c =
    known_next c.insert.new.self.names c.names.invariant.0 c.args.names.now c.names.name-index (record { name = record { ref_ptr = (0, 0); now = [] }; at = 0 }) _ (omega arith)
    (c.in_ok-_is_new.ensures.known c.names.invariant.0 c.names.invariant.1) c.names.invariant.2
