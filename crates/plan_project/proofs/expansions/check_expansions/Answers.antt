-- The first of what was noted.
use Rattle.std.proofs.Common.{Some, None, sym, ◌∙◌}
use Rattle.plan_project.proofs.NotingLaws.{verdict}
use Rattle.plan_project.proofs.expansions.check_expansions.Goals as goal

pub returns-in-Some-clause-fault : goal.returns-in-Some-clause-fault
returns-in-Some-clause-fault c = verdict c.args.schema.now c.args.documents.now c.in-Ok.noted (Some c.in-Some.fault) c.in-Ok.ensures (sym c.in-Some.is ∙ c.first.ensures)

pub returns-in-None-clause-sizes : goal.returns-in-None-clause-sizes
returns-in-None-clause-sizes c = let v = verdict c.args.schema.now c.args.documents.now c.in-Ok.noted None c.in-Ok.ensures (sym c.in-None.is ∙ c.first.ensures) in v.0

pub returns-in-None-clause-merges : goal.returns-in-None-clause-merges
returns-in-None-clause-merges c = let v = verdict c.args.schema.now c.args.documents.now c.in-Ok.noted None c.in-Ok.ensures (sym c.in-None.is ∙ c.first.ensures) in v.1
