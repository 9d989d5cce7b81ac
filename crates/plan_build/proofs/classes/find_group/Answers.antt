-- This group is the first, or it is none.
use Rattle.std.proofs.Common.{sym, ◌∙◌, arith}
use Rattle.plan_build.specs.Classes.{same_target}
use Rattle.plan_build.specs.ClassView.{target_view}
use Rattle.plan_build.proofs.CodeSteps.{first_here, first_later}
use Rattle.plan_build.proofs.classes.find_group.Goals as goal

pub returns-then-same_target : goal.returns-then-same_target
returns-then-same_target c =
    sym (first_here (λ g. same_target c.args.schema.now (target_view g.target) (target_view c.args.target.now)) c.args.groups.now c.groups.at c.index-groups-at.result (omega arith) c.index-groups-at.is c.groups.invariant
    (sym c.same_target.ensures ∙ c.if-same_target.true))

pub groups-preserved : goal.groups-preserved
groups-preserved c =
    first_later (λ g. same_target c.args.schema.now (target_view g.target) (target_view c.args.target.now)) c.args.groups.now c.groups.at c.index-groups-at.result (omega arith) c.index-groups-at.is c.groups.invariant
    (sym c.same_target.ensures ∙ c.if-same_target.false)
