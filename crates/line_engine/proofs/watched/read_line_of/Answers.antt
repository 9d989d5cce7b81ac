-- The plan in order reads as the one that is kept.
use Rattle.std.proofs.Common.{refl, subst}
use Rattle.plan_ir.specs.declared.reader.ReaderPlan.{ReaderPlan}
use Rattle.plan_project.specs.plan_order.Alike.{ReadAlike}
use Rattle.line_engine.proofs.watched.read_line_of.Goals as goal

pub ordered_line_of-requires-clause-order : goal.ordered_line_of-requires-clause-order
ordered_line_of-requires-clause-order g c = (c.in-Some.ensures.order c.in-Some.plan.now refl).0

pub ordered_line_of-requires-clause-alike : goal.ordered_line_of-requires-clause-alike
ordered_line_of-requires-clause-alike g c =
    subst (λ (p : ReaderPlan). ReadAlike p.steps c.in-Some.plan.now.steps) c.deref.ensures (c.in-Some.ensures.order c.in-Some.plan.now refl).1
