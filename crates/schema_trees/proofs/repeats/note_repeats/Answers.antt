-- One more name, and all of them.
use Rattle.std.proofs.Common.{[], refl, arith}
use Rattle.schema_trees.proofs.RepeatSteps.{repeats_next, all_noted, all_seen}
use Rattle.schema_trees.proofs.repeats.note_repeats.Goals as goal

pub names-init : goal.names-init
names-init c = λ before k. (before, k, refl, λ m. refl)

pub names-preserved : goal.names-preserved
names-preserved c = λ before k.
    let p = c.names.invariant before k in
    repeats_next c.insert.new.self.names p.0 c.args.names.now c.names.name-index (record { name = record { ref_ptr = (0, 0); now = [] }; at = 0 }) _ _ c.in_ok-is_new.is_new _ _ (omega arith)
    (c.in_ok-is_new.ensures.known p.0 p.1) (c.in_ok-is_new.ensures.new_name p.0 p.1) c.note_if.ensures p.2 p.3

pub returns-clause-places : goal.returns-clause-places
returns-clause-places c = λ before k. all_noted c.names.seen.names c.names.least.at c.args.names.now c.names.name-index _ _ (omega arith) (c.names.invariant before k)

pub returns-clause-known : goal.returns-clause-known
returns-clause-known c = λ before k. all_seen c.names.seen.names c.names.least.at before c.args.names.now c.names.name-index _ (omega arith) (c.names.invariant before k)
