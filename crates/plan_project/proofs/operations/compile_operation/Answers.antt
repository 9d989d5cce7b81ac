-- No operation of an accepted project breaks E1 or E2.
use Rattle.plan_project.proofs.ArtifactSteps.{limits_named}
use Rattle.plan_project.proofs.operations.compile_operation.Goals as goal

pub expanded_operation-requires-clause-few : goal.expanded_operation-requires-clause-few
expanded_operation-requires-clause-few c =
    let e = c.args.planner.now.expander in
    (limits_named e.schema.now e.documents.now c.args.name.now c.requires.ready.accepted.accepted.sizes).0

pub expanded_operation-requires-clause-flat : goal.expanded_operation-requires-clause-flat
expanded_operation-requires-clause-flat c =
    let e = c.args.planner.now.expander in
    (limits_named e.schema.now e.documents.now c.args.name.now c.requires.ready.accepted.accepted.sizes).1
