-- An operation that has a name is put under it; other definitions are passed over.
use Rattle.std.specs.BTreeMap.{get_by_text}
use Rattle.plan_project.proofs.Putting.{no_name, no_operation, operation_put, own_operation}
use Rattle.plan_project.proofs.listing.put_operation.Goals as goal
use Rattle.plan_project.specs.Filling.{IsOperationOf}

pub compile_operation-requires-clause-there : goal.compile_operation-requires-clause-there
compile_operation-requires-clause-there c =
    c.requires.there c.in-Some.name (own_operation c.args.definition.now c.in-Operation.operation c.in-Some.name c.in-Operation.is c.in-Some.is)

pub returns-in-Fragment : goal.returns-in-Fragment
returns-in-Fragment c =
    no_operation (IsOperationOf c.args.planner.now.expander.schema.now c.args.planner.now.expander.documents.now) c.args.definition.now (get_by_text c.args.operations.now) _ c.in-Fragment.is

pub returns-in-None : goal.returns-in-None
returns-in-None c =
    no_name (IsOperationOf c.args.planner.now.expander.schema.now c.args.planner.now.expander.documents.now) c.args.definition.now (get_by_text c.args.operations.now)
    c.in-Operation.operation c.in-Operation.is c.in-None.is

pub returns-in_ok-put_new-in-Some : goal.returns-in_ok-put_new-in-Some
returns-in_ok-put_new-in-Some c =
    operation_put (IsOperationOf c.args.planner.now.expander.schema.now c.args.planner.now.expander.documents.now) c.args.definition.now (get_by_text c.args.operations.now)
    c.in-Operation.operation c.in-Some.name _ c.in_ok-compiled-in-Some.compiled _ c.in-Operation.is c.in-Some.is c.as_str.ensures
    (λ n. c.in_ok-put_new-in-Some.ensures n) c.in_ok-compiled-in-Some.ensures
