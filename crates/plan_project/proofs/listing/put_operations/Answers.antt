-- One definition more, and all of them.
use Rattle.std.specs.BTreeMap.{get_by_text}
use Rattle.plan_project.proofs.Looking.{found-at, takes_all, takes_next, takes_nothing}
use Rattle.plan_project.proofs.listing.put_operations.Goals as goal
use Rattle.plan_project.specs.Filling.{IsOperationOf, operation_under}

pub definitions-init : goal.definitions-init
definitions-init c = takes_nothing (IsOperationOf c.args.planner.now.expander.schema.now c.args.planner.now.expander.documents.now) (get_by_text c.args.operations.now)

pub put_operation-requires-clause-there : goal.put_operation-requires-clause-there
put_operation-requires-clause-there c = λ n h.
    c.requires.there n
    (found-at (operation_under n) c.args.definitions.now c.definitions.definition-index c.definition-item.result c.definitions-test.true c.definition-item.is h)

pub definitions-preserved : goal.definitions-preserved
definitions-preserved c =
    takes_next (IsOperationOf c.args.planner.now.expander.schema.now c.args.planner.now.expander.documents.now) operation_under c.args.definitions.now c.definitions.definition-index
    c.definition-item.result (get_by_text c.args.operations.now) (get_by_text c.definitions.operations) (get_by_text c.put_operation.new.operations) c.definitions-test.true
    c.definition-item.is c.definitions.invariant c.in_ok-put_operation.ensures

pub returns : goal.returns
returns c =
    takes_all (IsOperationOf c.args.planner.now.expander.schema.now c.args.planner.now.expander.documents.now) operation_under c.args.definitions.now c.definitions.definition-index
    (get_by_text c.args.operations.now) (get_by_text c.definitions.operations) c.definitions-test.false c.definitions.invariant
